-- Lists by a key.
use Rattle.std.proofs.Common.{◌≡◌, ◌≤◌, ◌<◌, ◌+◌, ◌-◌, ℕ, ℤ, ◌≤ℤ◌, List, ◌++◌, length, take, drop, slice_index_or, arith, inl, inr, ap, sym, refl, subst}
use Rattle.std.proofs.lemmas.List.{get_or-take, get_or-drop, length-take, length-drop, get_or_default, get_or_append_left, get_or-append_right, length-append, take-append-drop}
use Rattle.std.proofs.lemmas.List.Elements.{All-weaker}
use Rattle.std.specs.Prelude.{int_le, true, false}
use Rattle.std.specs.List.Sorted.{IsPermutation}
use Rattle.std.proofs.Math.Nat.{eq-or-lt_of_le}
use Rattle.std.proofs.lemmas.List.Sorted.{All-permutation, length_permutation, IsPermutation-append_left, IsPermutation-append_right}
use Rattle.std.proofs.lemmas.Bool.{cases_eq, cases_lt}
use Rattle.std.specs.List.{SwappedAt}
use Rattle.std.proofs.lemmas.Int.{ints}
use Rattle.rstar_base.specs.Orders.{IsSplitAt}
use Rattle.rstar_base.specs.Slabs.{NoneAbove, IsAround, IsAroundSoFar}

trans-le : (x y z : ℤ) → x ≤ℤ y → y ≤ℤ z → x ≤ℤ z
trans-le x y z p q = grind (arith, ints)

-- what comparisons of a key and the pivot say
pub at_most_of_le : (x y : ℤ) → int_le x y ≡ true → x ≤ℤ y
at_most_of_le x y h = grind (arith, ints)

pub at_least_of_le : (x y : ℤ) → int_le x y ≡ false → y ≤ℤ x
at_least_of_le x y h = grind (arith, ints)

module _ {T : Type 0} (key : T → ℤ) where
  -- no element before place k has a greater key than any from k on
  pub across_split : (k : ℕ) (xs : List T) → k < length xs → IsSplitAt key k xs → (i j : ℕ) (d e : T) → i < k → k ≤ j → j < length xs → key (slice_index_or xs i d) ≤ℤ key (slice_index_or xs j e)
  across_split k xs fits h i j d e p q r =
      rw (get_or_default xs j e d r) (elim (eq-or-lt_of_le q) [
        | inl same ↦ rw (← same) (h.before i d p)
        | inr more ↦ trans-le _ _ _ (h.before i d p) (h.after j d more r)
      ])

  parts_at : (k : ℕ) (xs : List T) → ((i j : ℕ) (d e : T) → i < k → k ≤ j → j < length xs → key (slice_index_or xs i d) ≤ℤ key (slice_index_or xs j e))
      → NoneAbove key (take k xs) (drop k xs)
  parts_at k xs across i d p j e q =
      let below : i < k = omega (arith, length-take k xs) in
      rw (get_or-drop, get_or-take k xs i d below) (across i (k + j) d e below (omega arith) (omega (arith, length-drop k xs)))

  pub parts_of_split : (k : ℕ) (xs : List T) → k < length xs → IsSplitAt key k xs → NoneAbove key (take k xs) (drop k xs)
  parts_of_split k xs fits h = parts_at k xs (across_split k xs fits h)

  -- the elements before a cut between the two places have no greater keys than those after it
  parts_around : (pivot : ℤ) (low high at : ℕ) (xs : List T) → IsAround key pivot low high xs → low ≤ at → at ≤ high → NoneAbove key (take at xs) (drop at xs)
  parts_around pivot low high at xs around p q =
      parts_at at xs (λ i j d e b c r. trans-le _ _ _ (around.at_most i d (omega arith)) (around.at_least j e (omega arith) r))

module _ {T : Type 0} (key : T → ℤ) (pivot : ℤ) where
  -- the element at a place that is the next to be placed goes to the front
  pub placed_first : (less at : ℕ) (xs ys : List T) → IsAroundSoFar key pivot less at xs → SwappedAt xs ys less at → length ys ≡ length xs → at < length xs
      → ((d : T) → key (slice_index_or xs at d) ≤ℤ pivot) → IsAroundSoFar key pivot (less + 1) (at + 1) ys
  placed_first less at xs ys so swapped long room here =
      let order = so.order in
      record {
        order = omega arith;
        within = omega arith;
        at_most = λ i d p. elim (cases_eq i less) [
          | inl e ↦ rw (e, swapped.0 d) (here d)
          | inr ne ↦ rw (swapped.2 i d ne (λ e. absurd (omega (arith, e)))) (so.at_most i d (omega arith))
        ];
        at_least = λ i d q p. elim (cases_eq i at) [
          | inl e ↦ rw (e, swapped.1 d) (so.at_least less d (omega arith) (omega (arith, e)))
          | inr far ↦ rw (swapped.2 i d (λ e. absurd (omega (arith, e))) far) (so.at_least i d (omega arith) (omega arith))
        ];
      }

  -- it goes behind those that went to the front
  pub placed_behind : (less at : ℕ) (xs ys : List T) → IsAroundSoFar key pivot less at xs → SwappedAt xs ys less at → length ys ≡ length xs → at < length xs
      → ((d : T) → pivot ≤ℤ key (slice_index_or xs at d)) → IsAroundSoFar key pivot less (at + 1) ys
  placed_behind less at xs ys so swapped long room here =
      let order = so.order in
      record {
        order = omega arith;
        within = omega arith;
        at_most = λ i d p. rw (swapped.2 i d (λ e. absurd (omega (arith, e))) (λ e. absurd (omega (arith, e)))) (so.at_most i d p);
        at_least = λ i d q p. elim (cases_eq i less) [
          | inl e ↦ rw (e, swapped.0 d) (here d)
          | inr ne ↦ elim (cases_eq i at) [
            | inl e ↦ rw (e, swapped.1 d) (so.at_least less d (omega arith) (omega (arith, e)))
            | inr far ↦ rw (swapped.2 i d ne far) (so.at_least i d q (omega arith))
          ]
        ];
      }

  -- where none is smaller than the pivot, those that are not greater may be put first
  pub around_least : (less same : ℕ) (xs ys : List T) → less ≡ 0 → IsAround key pivot less less xs → IsPermutation xs ys → IsAround key pivot same same ys → IsAround key pivot 0 same ys
  around_least less same xs ys none first moved around = record {
    at_most = around.at_most;
    at_least = λ i d q p. All-permutation (λ x. pivot ≤ℤ key x) xs ys moved (λ j e h. first.at_least j e (omega arith) h) i d p;
  }

module _ {T : Type 0} (key : T → ℤ) where
  pub split_front : (xs ys : List T) (k : ℕ) → k < length xs → IsSplitAt key k xs → NoneAbove key xs ys → IsSplitAt key k (xs ++ ys)
  split_front xs ys k fits split above = record {
    before = λ i d h. rw (get_or_append_left xs ys d i (omega arith), get_or_append_left xs ys d k fits) (split.before i d h);
    after = λ j d h l. elim (cases_lt j (length xs)) [
      | inl p ↦ rw (get_or_append_left xs ys d k fits, get_or_append_left xs ys d j p) (split.after j d h p)
      | inr p ↦ rw (get_or_append_left xs ys d k fits, get_or-append_right xs ys (length xs) j d refl p) (above k d fits (j - length xs) d (omega (arith, length-append xs ys)))
    ];
  }

  pub split_back : (xs ys : List T) (k : ℕ) → length xs ≤ k → k < length xs + length ys → IsSplitAt key (k - length xs) ys → NoneAbove key xs ys → IsSplitAt key k (xs ++ ys)
  split_back xs ys k past fits split above =
      let there : (d : T) → slice_index_or (xs ++ ys) k d ≡ slice_index_or ys (k - length xs) d = λ d. get_or-append_right xs ys (length xs) k d refl past in
      record {
        before = λ i d h. elim (cases_lt i (length xs)) [
          | inl p ↦ rw (get_or_append_left xs ys d i p, there d) (above i d p (k - length xs) d (omega arith))
          | inr p ↦ rw (get_or-append_right xs ys (length xs) i d refl p, there d) (split.before (i - length xs) d (omega arith))
        ];
        after = λ j d h l. rw (there d, get_or-append_right xs ys (length xs) j d refl (omega arith)) (split.after (j - length xs) d (omega arith) (omega (arith, length-append xs ys)));
      }

  -- a place in the front part was found
  pub found_front : (pivot : ℤ) (low high k : ℕ) (xs front rest found : List T) → IsAround key pivot low high xs → low ≤ high → high ≤ length xs → k < low → front ≡ take low xs → rest ≡ drop low xs → IsPermutation front found → IsSplitAt key k found
      → IsPermutation xs (found ++ rest) × IsSplitAt key k (found ++ rest)
  found_front pivot low high k xs front rest found around p q r is_front is_rest same split =
      let parts : NoneAbove key front rest = rw (is_front, is_rest) (parts_around key pivot low high low xs around (omega arith) p) in
      let above : NoneAbove key found rest = All-permutation (λ x. (j : ℕ) (e : T) → j < length rest → key x ≤ℤ key (slice_index_or rest j e)) front found same parts in
      let whole : front ++ rest ≡ xs = rw (is_front, is_rest) (take-append-drop low xs) in (
        subst (λ zs. IsPermutation zs (found ++ rest)) whole (IsPermutation-append_left rest front found same),
        split_front found rest k (omega (arith, length-take low xs, ap length is_front, length_permutation front found same)) split above,
      )

  -- a place in the back part was found
  pub found_back : (pivot : ℤ) (low high k : ℕ) (xs front rest found : List T) → IsAround key pivot low high xs → low ≤ high → high ≤ k → k < length xs → front ≡ take high xs → rest ≡ drop high xs → IsPermutation rest found → IsSplitAt key (k - high) found
      → IsPermutation xs (front ++ found) × IsSplitAt key k (front ++ found)
  found_back pivot low high k xs front rest found around p q r is_front is_rest same split =
      let long : length front ≡ high = omega (arith, length-take high xs, ap length is_front) in
      let parts : NoneAbove key front rest = rw (is_front, is_rest) (parts_around key pivot low high high xs around p (omega arith)) in
      let above : NoneAbove key front found = All-weaker (λ x. (j : ℕ) (e : T) → j < length rest → key x ≤ℤ key (slice_index_or rest j e)) (λ x. (j : ℕ) (e : T) → j < length found → key x ≤ℤ key (slice_index_or found j e)) (λ x. All-permutation (λ y. key x ≤ℤ key y) rest found same) front parts in
      let whole : front ++ rest ≡ xs = rw (is_front, is_rest) (take-append-drop high xs) in (
        subst (λ zs. IsPermutation zs (front ++ found)) whole (IsPermutation-append_right front rest found same),
        split_back front found k (omega arith) (omega (arith, length-drop high xs, ap length is_rest, length_permutation rest found same)) (subst (λ n. IsSplitAt key (k - n) found) (sym long) split) above,
      )
