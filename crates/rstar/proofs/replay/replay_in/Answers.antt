use Rattle.std.proofs.Common.{arith, append_assoc}
use Rattle.std.proofs.lemmas.Grind.{common_steps}
use Rattle.std.specs.Vec.Iter.{into_iter_items}
use Rattle.rstar.specs.Steps.{questions_of, StepByOrder}
use Rattle.rstar.specs.StepsOfTrees.{StepOfTree}
use Rattle.rstar.proofs.commands.Replays.{run_more, run_whole}
use Rattle.rstar.proofs.replay.replay_in.Goals as goal

pub loop-command-preserved : goal.loop-command-preserved
loop-command-preserved g c =
    let q = questions_of g.T.Envelope.Envelope.boxes g.T.RTreeObject.object g.T.PointDistance.distances g.T.Envelope.Point.Point.DIMENSIONS g.T.Envelope.Point.Point.coord g.T.Envelope.Point.Scalar.Number.value g.T.PartialEq.eq in
    record {
      steps = rw c.push_reserved.ensures.items (run_more (StepOfTree g.T.Envelope.Envelope.boxes g.T.RTreeObject.object g.Params.RTreeParams.MAX_SIZE g.Params.RTreeParams.REINSERTION_COUNT (StepByOrder q g.O.TieOrder.order)) c.args.tree.now c.loop-command.tree c.step_in.new.tree c.loop-command.yielded c.loop-command.replies.items c.in-Some.command c.step_in.result c.loop-command.invariant.steps c.step_in.ensures);
      whole = c.step_in.ensures.whole;
      fit = (rw c.in-Some.ensures.steps.0 at c.loop-command.invariant.fit).1;
      all = rw append_assoc (rw c.in-Some.ensures.steps.0 at c.loop-command.invariant.all);
      replies = grind (arith, common_steps);
      room = grind (arith, common_steps);
    }

pub returns-clause-steps : goal.returns-clause-steps
returns-clause-steps g c =
    let q = questions_of g.T.Envelope.Envelope.boxes g.T.RTreeObject.object g.T.PointDistance.distances g.T.Envelope.Point.Point.DIMENSIONS g.T.Envelope.Point.Point.coord g.T.Envelope.Point.Scalar.Number.value g.T.PartialEq.eq in
    run_whole (StepOfTree g.T.Envelope.Envelope.boxes g.T.RTreeObject.object g.Params.RTreeParams.MAX_SIZE g.Params.RTreeParams.REINSERTION_COUNT (StepByOrder q g.O.TieOrder.order)) c.args.tree.now c.loop-command.tree c.loop-command.yielded (into_iter_items c.loop-command.command-iterator) c.args.commands.items c.loop-command.replies.items
    c.loop-command.invariant.all (omega (arith, c.loop-command.command-iterator.rest.ok.0, c.in-None.ensures.steps.0)) c.loop-command.invariant.steps
