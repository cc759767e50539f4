-- Lists of elements by a key.
use Rattle.std.specs.Prelude.{ℕ, ℤ, ◌<◌, ◌≤ℤ◌, List, length, slice_index_or}

-- a partition at place k: no key before it is greater than the one at k, and none after it is smaller
pub record IsSplitAt {T : Type 0} (key : T → ℤ) (k : ℕ) (xs : List T) : Type 0 where
  pub before : (i : ℕ) (d : T) → i < k → key (slice_index_or xs i d) ≤ℤ key (slice_index_or xs k d)
  pub after : (j : ℕ) (d : T) → k < j → j < length xs → key (slice_index_or xs k d) ≤ℤ key (slice_index_or xs j d)
