-- A sorted list is split at each of its places.
use Rattle.std.proofs.Common.{◌≡◌, ◌<◌, ◌≤ℤ◌, ℕ, ℤ, false, List, length, arith}
use Rattle.std.specs.Ordering.{is_lt, int_cmp}
use Rattle.std.specs.List.Sorted.{IsSortedByKey}
use Rattle.std.proofs.lemmas.Cmp.{int_cmp_total}
use Rattle.std.proofs.lemmas.List.Sorted.{ranks_by, sorted_far}
use Rattle.std.proofs.lemmas.Int.{ints}
use Rattle.rstar_base.specs.Orders.{IsSplitAt}

not-above : (x y : ℤ) → is_lt (int_cmp y x) ≡ false → x ≤ℤ y
not-above x y h = grind (arith, ints)

pub split_from_sorted : {T : Type 0} (key : T → ℤ) (k : ℕ) (xs : List T) → k < length xs → IsSortedByKey key int_cmp xs → IsSplitAt key k xs
split_from_sorted key k xs fits up = record {
  before = λ i d h. not-above _ _ (sorted_far _ (ranks_by int_cmp_total key) xs up i k d (omega arith) fits);
  after = λ j d h l. not-above _ _ (sorted_far _ (ranks_by int_cmp_total key) xs up k j d (omega arith) l);
}
