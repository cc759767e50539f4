use Rattle.std.proofs.Common.{◌≡◌, refl}
use Rattle.std.proofs.lemmas.List.Sorted.{IsPermutation-refl}
use Rattle.rstar.specs.declared.replay.Command.TheVariants as command
use Rattle.rstar.specs.declared.replay.Reply.TheVariants as reply
use Rattle.rstar.specs.Steps.{Questions, questions_of}
use Rattle.rstar.specs.Trees.{elements_in}
use Rattle.rstar.proofs.commands.Replays.{no_removal, none_taken, one_step, takes_one}
use Rattle.rstar.proofs.replay.step_in.Given.{Over}
use Rattle.rstar.proofs.replay.step_in.Goals as goal

abbrev questions : (g : Over) → Questions g.row.T.Denot g.row.T-Envelope.Denot g.row.T-Envelope-Point.Denot g.row.T-Envelope-Point-Scalar.Denot
questions g = questions_of g.T.Envelope.Envelope.boxes g.T.RTreeObject.object g.T.PointDistance.distances g.T.Envelope.Point.Point.DIMENSIONS g.T.Envelope.Point.Point.coord g.T.Envelope.Point.Scalar.Number.value g.T.PartialEq.eq

pub returns-in-Insert : goal.returns-in-Insert
returns-in-Insert g c = rw c.in-Insert.is record { answered = c.insert.ensures.step; whole = c.insert.ensures.whole; asked = λ is. absurd is; missed = no_removal (questions g) g.O.TieOrder.order (elements_in c.args.tree.now) (elements_in c.insert.new.tree) (command.Insert c.in-Insert.t) c.insert.result (c.insert.new.tree ≡ c.args.tree.now) (λ s. s) c.insert.ensures.step; refused = c.insert.ensures.refused; too_many = (λ is. (tt, c.insert.ensures.too_many.0 is), λ both. c.insert.ensures.too_many.1 both.1) }

pub returns-in-Load : goal.returns-in-Load
returns-in-Load g c = rw c.in-Load.is (one_step g.T.Envelope.Envelope.boxes g.T.RTreeObject.object g.Params.RTreeParams.MAX_SIZE g.Params.RTreeParams.REINSERTION_COUNT (questions g) g.O.TieOrder.order c.args.tree.now c.load.new.tree (command.Load c.in-Load.list) c.load.result (λ is. is) c.load.ensures.step c.load.ensures.whole (λ is. absurd is) (no_removal (questions g) g.O.TieOrder.order (elements_in c.args.tree.now) (elements_in c.load.new.tree) (command.Load c.in-Load.list) c.load.result (c.load.new.tree ≡ c.args.tree.now) (λ s. s) c.load.ensures.step) c.load.ensures.refused)

pub returns-in-Remove : goal.returns-in-Remove
returns-in-Remove g c = rw c.in-Remove.is (one_step g.T.Envelope.Envelope.boxes g.T.RTreeObject.object g.Params.RTreeParams.MAX_SIZE g.Params.RTreeParams.REINSERTION_COUNT (questions g) g.O.TieOrder.order c.args.tree.now c.remove.new.self (command.Remove c.in-Remove.t) (reply.Taken c.remove.result) (λ is. is)
    (takes_one elements_in c.args.tree.now c.remove.new.self _ c.remove.result c.remove.ensures.taken c.remove.ensures.equal c.remove.ensures.none c.remove.ensures.kept) c.remove.ensures.whole (λ is. absurd is)
    (none_taken c.remove.result (c.remove.new.self ≡ c.args.tree.now) c.remove.ensures.kept (reply.Taken c.remove.result) refl) (λ is. absurd is))

pub returns-in-RemoveAtPoint : goal.returns-in-RemoveAtPoint
returns-in-RemoveAtPoint g c = rw c.in-RemoveAtPoint.is (one_step g.T.Envelope.Envelope.boxes g.T.RTreeObject.object g.Params.RTreeParams.MAX_SIZE g.Params.RTreeParams.REINSERTION_COUNT (questions g) g.O.TieOrder.order c.args.tree.now c.remove_at_point.new.self (command.RemoveAtPoint c.in-RemoveAtPoint.point) (reply.Taken c.remove_at_point.result) (λ is. is)
    (takes_one elements_in c.args.tree.now c.remove_at_point.new.self _ c.remove_at_point.result c.remove_at_point.ensures.taken c.remove_at_point.ensures.at_point c.remove_at_point.ensures.none c.remove_at_point.ensures.kept) c.remove_at_point.ensures.whole (λ is. absurd is)
    (none_taken c.remove_at_point.result (c.remove_at_point.new.self ≡ c.args.tree.now) c.remove_at_point.ensures.kept (reply.Taken c.remove_at_point.result) refl) (λ is. absurd is))

pub returns-in-PopNearest : goal.returns-in-PopNearest
returns-in-PopNearest g c = rw c.in-PopNearest.is (one_step g.T.Envelope.Envelope.boxes g.T.RTreeObject.object g.Params.RTreeParams.MAX_SIZE g.Params.RTreeParams.REINSERTION_COUNT (questions g) g.O.TieOrder.order c.args.tree.now c.pop.new.tree (command.PopNearest c.in-PopNearest.point) c.pop.result (λ is. is) c.pop.ensures.step c.pop.ensures.whole (λ is. absurd is) c.pop.ensures.missed c.pop.ensures.refused)

pub returns-in-Drain : goal.returns-in-Drain
returns-in-Drain g c = rw c.in-Drain.is (one_step g.T.Envelope.Envelope.boxes g.T.RTreeObject.object g.Params.RTreeParams.MAX_SIZE g.Params.RTreeParams.REINSERTION_COUNT (questions g) g.O.TieOrder.order c.args.tree.now c.drain.new.tree (command.Drain c.in-Drain.query c.in-Drain.most) c.drain.result (λ is. is) c.drain.ensures.step c.drain.ensures.whole (λ is. absurd is) (no_removal (questions g) g.O.TieOrder.order (elements_in c.args.tree.now) (elements_in c.drain.new.tree) (command.Drain c.in-Drain.query c.in-Drain.most) c.drain.result (c.drain.new.tree ≡ c.args.tree.now) (λ s. s) c.drain.ensures.step) c.drain.ensures.refused)

pub returns-in-Ask : goal.returns-in-Ask
returns-in-Ask g c = rw c.in-Ask.is (one_step g.T.Envelope.Envelope.boxes g.T.RTreeObject.object g.Params.RTreeParams.MAX_SIZE g.Params.RTreeParams.REINSERTION_COUNT (questions g) g.O.TieOrder.order c.args.tree.now c.args.tree.now (command.Ask c.in-Ask.query) c.ask.result (λ is. is) c.ask.ensures c.requires.whole (λ is. refl) (λ is. refl) (λ is. refl))

pub returns-in-Contains : goal.returns-in-Contains
returns-in-Contains g c = rw c.in-Contains.is (one_step g.T.Envelope.Envelope.boxes g.T.RTreeObject.object g.Params.RTreeParams.MAX_SIZE g.Params.RTreeParams.REINSERTION_COUNT (questions g) g.O.TieOrder.order c.args.tree.now c.args.tree.now (command.Contains c.in-Contains.t) (reply.Has c.contains.result) (λ is. is) (c.contains.ensures, IsPermutation-refl _) c.requires.whole (λ is. refl) (λ is. refl) (λ is. refl))

pub returns-in-Nearest : goal.returns-in-Nearest
returns-in-Nearest g c = rw c.in-Nearest.is (one_step g.T.Envelope.Envelope.boxes g.T.RTreeObject.object g.Params.RTreeParams.MAX_SIZE g.Params.RTreeParams.REINSERTION_COUNT (questions g) g.O.TieOrder.order c.args.tree.now c.args.tree.now (command.Nearest c.in-Nearest.point) c.nearest.result (λ is. is) c.nearest.ensures c.requires.whole (λ is. refl) (λ is. refl) (λ is. refl))

pub returns-in-Neighbours : goal.returns-in-Neighbours
returns-in-Neighbours g c = rw c.in-Neighbours.is (one_step g.T.Envelope.Envelope.boxes g.T.RTreeObject.object g.Params.RTreeParams.MAX_SIZE g.Params.RTreeParams.REINSERTION_COUNT (questions g) g.O.TieOrder.order c.args.tree.now c.args.tree.now (command.Neighbours c.in-Neighbours.point c.in-Neighbours.most) c.neighbours.result (λ is. is) c.neighbours.ensures c.requires.whole (λ is. refl) (λ is. refl) (λ is. refl))

pub returns-in-Join : goal.returns-in-Join
returns-in-Join g c = rw c.in-Join.is (one_step g.T.Envelope.Envelope.boxes g.T.RTreeObject.object g.Params.RTreeParams.MAX_SIZE g.Params.RTreeParams.REINSERTION_COUNT (questions g) g.O.TieOrder.order c.args.tree.now c.args.tree.now (command.Join c.in-Join.list) c.join.result (λ is. is) c.join.ensures c.requires.whole (λ is. refl) (λ is. refl) (λ is. refl))
