use Rattle.rstar.specs.Selections.{IsWalking}
use Rattle.rstar_vectors.proofs.selections.asks_one_by_one.Given as goal

abbrev pub invariant-loop-leaves : goal.invariant-loop-leaves
invariant-loop-leaves g l = IsWalking g.Func.SelectionFunction.accepts l.walk
