use Rattle.rstar.specs.Trees.{elements_in}
use Rattle.rstar.proofs.commands.Replays.{gathered_some}
use Rattle.rstar.proofs.replay.changes.drain_some.Goals as goal

pub returns-clause-taken : goal.returns-clause-taken
returns-clause-taken g c =
    gathered_some (g.R.SelectionFunction.selects c.args.func) c.args.most c.min-room.result c.size.result (elements_in c.args.tree.now) c.in_ok-taken.taken.items (elements_in c.gather.new.self) c.gather.new.taken.items c.shrink_to_fit.new.self.items
    c.in_ok-taken.ensures.items c.min-room.ensures (c.size.ensures.counted c.requires.whole) c.gather.ensures.moved (c.gather.ensures.ended c.requires.lawful) c.shrink_to_fit.ensures.items
