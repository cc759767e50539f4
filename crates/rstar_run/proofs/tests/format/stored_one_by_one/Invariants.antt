use Rattle.rstar.specs.Stored.{boxes, places}
use Rattle.rstar.specs.Trees.{IsWholeTree}
use Rattle.rstar_run.proofs.tests.format.stored_one_by_one.Given as goal

abbrev pub invariant-loop-point : goal.invariant-loop-point
invariant-loop-point l = IsWholeTree boxes places 6 l.tree
