-- How a list of children is cut in two, after Beckmann, Kriegel, Schneider and Seeger, "The R*-tree" (1990).
use Rattle.std.specs.Prelude.{◌≡◌, ◌⊎◌, ℕ, ℤ, ◌+◌, ◌≤◌, ◌<◌, min, List, take, drop, length}
use Rattle.std.specs.Ordering.{int_cmp}
use Rattle.std.specs.List.Sorted.{IsPermutation, IsSortedByKey}
use Rattle.rstar_base.specs.Envelopes.{Boxes}
use Rattle.rstar_base.specs.Hulls.{hull}

-- a list sorted by the key of some axis, where there is one
abbrev pub RisesByAxis : {T : Type 0} → ℕ → (T → ℕ → ℤ) → List T → Type 0
RisesByAxis axes key xs = 0 < axes → (axis : ℕ) × (axis < axes) × IsSortedByKey (λ t. key t axis) int_cmp xs

-- a reordering of a list that is sorted by the key of some axis
pub record IsArrangement {T : Type 0} (axes : ℕ) (key : T → ℕ → ℤ) (xs ys : List T) : Type 0 where
  pub same : IsPermutation xs ys
  pub rises : RisesByAxis axes key ys

-- a cut before place k that leaves at least `min` items on both sides
abbrev pub IsAllowedCut : {T : Type 0} → ℕ → List T → ℕ → Type 0
IsAllowedCut min xs k = (min ≤ k) × (k + min ≤ length xs)

-- the pair (a, b) is at most (c, d), by the first numbers and then by the second
abbrev pub IsPairAtMost : ℕ → ℕ → ℕ → ℕ → Type 0
IsPairAtMost a b c d = (a < c) ⊎ ((a ≡ c) × (b ≤ d))

module _ {T E : Type 0} (v : Boxes E) (box_of : T → E) where
  -- the area of the intersection of the two parts at a cut
  abbrev pub overlap_at : List T → ℕ → ℕ
  overlap_at xs k = v.intersection_area (hull v box_of (take k xs)) (hull v box_of (drop k xs))

  -- the sum of the areas of the two parts at a cut, clamped to `top`
  abbrev pub areas_at : ℕ → List T → ℕ → ℕ
  areas_at top xs k = min (v.area (hull v box_of (take k xs)) + v.area (hull v box_of (drop k xs))) top

module _ {T E : Type 0} (v : Boxes E) (box_of : T → E) (top least_part : ℕ) where
  -- an allowed cut with the least overlap and, of those, the least sum of areas (Beckmann et al. 1990)
  pub record IsLeastCut (xs : List T) (k : ℕ) : Type 0 where
    pub allowed : IsAllowedCut least_part xs k
    pub least : (j : ℕ) → IsAllowedCut least_part xs j
        → IsPairAtMost (overlap_at v box_of xs k) (areas_at v box_of top xs k) (overlap_at v box_of xs j)
        (areas_at v box_of top xs j)
