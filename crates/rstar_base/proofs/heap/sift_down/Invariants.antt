use Rattle.std.proofs.Common.{◌-◌, length}
use Rattle.std.specs.List.Sorted.{IsPermutation}
use Rattle.std.proofs.HeapSift.{Sinking}
use Rattle.rstar_base.proofs.heap.sift_down.Given as goal

abbrev pub invariant-loop-at : goal.invariant-loop-at
invariant-loop-at g l = record { same : IsPermutation l.fn.items l.items; sinking : Sinking g.X.Ord.cmp g.met.X.Ord.total l.fn.items 0 (length l.fn.items) l.items l.at }

abbrev pub decreases-loop-at : goal.decreases-loop-at
decreases-loop-at g l = l.len - l.at
