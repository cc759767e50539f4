use Rattle.std.proofs.Common.{◌≡◌, ◌≤◌, length, drop, false}
use Rattle.std.specs.List.{AllByRecursion}
use Rattle.std.specs.Ordering.{is_lt}
use Rattle.rstar.proofs.algorithm.nearest_neighbor.few.place_of.Given as goal

-- the item is not less than those from there on
abbrev pub invariant-loop-at : goal.invariant-loop-at
invariant-loop-at g l = record {
  within : l.at ≤ length l.items;
  after : AllByRecursion (λ y. is_lt (g.X.Ord.cmp l.item y) ≡ false) (drop l.at l.items);
}

abbrev pub decreases-loop-at : goal.decreases-loop-at
decreases-loop-at g l = l.at
