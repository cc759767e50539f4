use Rattle.std.proofs.Common.{◌≡◌, ◌<◌, ◌++◌, ◌∷◌, [], List, Option, Some, None, false, length, drop}
use Rattle.std.specs.List.{AllByRecursion, insert}
use Rattle.std.specs.Option.{option_cmp}
use Rattle.std.specs.Ordering.{is_lt}
use Rattle.rstar_base.proofs.heap.put_in_order.Given as goal

-- the free place has come down so far, past greater items
abbrev pub invariant-loop-at : goal.invariant-loop-at
invariant-loop-at g l = record {
  within : l.at < length l.fn.items;
  moved : (front : List (Option g.row.T.Denot)) → l.fn.items ≡ front ++ None ∷ [] → l.items ≡ insert front l.at None;
  after : (front : List (Option g.row.T.Denot)) → l.fn.items ≡ front ++ None ∷ [] → AllByRecursion (λ y. is_lt (option_cmp g.T.Ord.cmp y (Some l.item)) ≡ false) (drop l.at front);
}

abbrev pub decreases-loop-at : goal.decreases-loop-at
decreases-loop-at g l = l.at
