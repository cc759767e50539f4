use Rattle.std.specs.Ordering.{int_cmp}
use Rattle.rstar_base.specs.SmallHeaps.{IsOrdered}
use Rattle.rstar_base_vectors.proofs.heaps.pushes_again.Given as goal

abbrev pub invariant-loop-number : goal.invariant-loop-number
invariant-loop-number l = IsOrdered int_cmp l.heap
