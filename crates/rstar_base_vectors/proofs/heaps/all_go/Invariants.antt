use Rattle.std.specs.Ordering.{int_cmp}
use Rattle.rstar_base.specs.SmallHeaps.{IsOrdered}
use Rattle.rstar_base_vectors.proofs.heaps.all_go.Given as goal

abbrev pub invariant-loop-step : goal.invariant-loop-step
invariant-loop-step l = IsOrdered int_cmp l.heap
