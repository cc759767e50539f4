use Rattle.std.proofs.Common.{◌≤◌}
use Rattle.std.specs.List.Sorted.{IsPermutation}
use Rattle.std.proofs.HeapSift.{Rising}
use Rattle.rstar_base.proofs.heap.sift_up.Given as goal

abbrev pub invariant-loop-at : goal.invariant-loop-at
invariant-loop-at g l = record { low : l.at ≤ l.start; same : IsPermutation l.fn.items l.items; rising : Rising g.X.Ord.cmp g.met.X.Ord.total l.fn.items l.start l.items l.at }

abbrev pub decreases-loop-at : goal.decreases-loop-at
decreases-loop-at g l = l.at
