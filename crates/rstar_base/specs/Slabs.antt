-- Slabs of a list of elements, and partitions around a pivot.
use Rattle.std.specs.Prelude.{◌≡◌, ◌≢◌, ℕ, ℤ, ◌++◌, ◌<◌, ◌≤◌, ◌≤ℤ◌, List, [], All, length, min, slice_index_or, IsPermutation, Option, Result, MatchOption, MatchResult}
use Rattle.std.specs.Int.{div_ceil}
use Rattle.std.specs.Global.{Vec}
use Rattle.std.specs.declared.alloc.AllocError.{AllocError}
use Rattle.rstar_base.specs.declared.clusters.ClusterGroupIterator.{ClusterGroupIterator}

-- no element of the first list has a greater key than an element of the second
abbrev pub NoneAbove : {T : Type 0} → (T → ℤ) → List T → List T → Type 0
NoneAbove key xs ys = All (λ x. All (λ y. key x ≤ℤ key y) ys) xs

-- ---- lists around a pivot

-- a partition around a pivot: before `high` no key is greater, and from `low` on none is smaller
pub record IsAround {T : Type 0} (key : T → ℤ) (pivot : ℤ) (low high : ℕ) (xs : List T) : Type 0 where
  pub at_most : (i : ℕ) (d : T) → i < high → key (slice_index_or xs i d) ≤ℤ pivot
  pub at_least : (i : ℕ) (d : T) → low ≤ i → i < length xs → pivot ≤ℤ key (slice_index_or xs i d)

-- a partition in progress: elements from `at` on are still to be placed
pub record IsAroundSoFar {T : Type 0} (key : T → ℤ) (pivot : ℤ) (less at : ℕ) (xs : List T) : Type 0 where
  pub order : less ≤ at
  pub within : at ≤ length xs
  pub at_most : (i : ℕ) (d : T) → i < less → key (slice_index_or xs i d) ≤ℤ pivot
  pub at_least : (i : ℕ) (d : T) → less ≤ i → i < at → pivot ≤ℤ key (slice_index_or xs i d)

-- ---- slabs

-- the elements that an iterator of slabs has left
abbrev pub elements_left : {T : Type 0} → ClusterGroupIterator T → List T
elements_left it = it.remaining.items

-- the length of the slabs of an iterator
abbrev pub slab_size_of : {T : Type 0} → ClusterGroupIterator T → ℕ
slab_size_of it = it.slab_size

-- the axis along which an iterator cuts
abbrev pub dimension_of : {T : Type 0} → ClusterGroupIterator T → ℕ
dimension_of it = it.cluster_dimension

-- the number of slabs that an iterator has left
abbrev pub slabs_left : {T : Type 0} → ClusterGroupIterator T → ℕ
slabs_left it = div_ceil (length (elements_left it)) (slab_size_of it)

-- an iterator whose slabs have elements and whose axis exists
abbrev pub IsCutting : {T : Type 0} → ℕ → ClusterGroupIterator T → Type 0
IsCutting axes it = (0 < slab_size_of it) × (dimension_of it < axes)

-- the s elements of the greatest keys, or all where there are fewer, were taken off a list
pub record IsSlabOf {T : Type 0} (key : T → ℤ) (s : ℕ) (before slab after : List T) : Type 0 where
  pub same : IsPermutation before (after ++ slab)
  pub size : length slab ≡ min s (length before)
  pub parted : NoneAbove key after slab

-- the answer of `next`: a slab while elements are left. A refusal drops the rest; the last slab is never refused.
abbrev pub GivesSlab : {T : Type 0} → (T → ℤ) → ℕ → List T → Option (Result (Vec T) AllocError) → List T → Type 0
GivesSlab key s before result after =
    MatchOption result
    ((before ≡ []) × (after ≡ []))
    (λ given. (before ≢ []) × MatchResult given (λ slab. IsSlabOf key s before slab.items after)
    (λ _. (s < length before) × (after ≡ [])))

-- a call of `next`: the slab of the greatest keys on its axis (`IsSlabOf`) while elements are left. A refusal drops
-- the rest; the last slab is never refused.
abbrev pub GivesNextSlab : {T : Type 0} → (T → ℕ → ℤ) → ClusterGroupIterator T → Option (Result (Vec T) AllocError)
    → ClusterGroupIterator T → Type 0
GivesNextSlab key old result new =
    GivesSlab (λ t. key t (dimension_of old)) (slab_size_of old) (elements_left old) result (elements_left new)
    × (slab_size_of new ≡ slab_size_of old) × (dimension_of new ≡ dimension_of old)
