use Rattle.rstar.specs.Stored.{boxes, places}
use Rattle.rstar.specs.Trees.{IsWholeTree}
use Rattle.rstar_run.proofs.tests.commands.first_astray.Given as goal

-- the tree is whole after each command
abbrev pub invariant-loop-k : goal.invariant-loop-k
invariant-loop-k l = IsWholeTree boxes places 6 l.tree
