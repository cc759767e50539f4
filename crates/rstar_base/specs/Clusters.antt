-- The number of slabs of a bulk load, after Lee and Lee (2003).
use Rattle.std.specs.Prelude.{ℕ, suc, ◌+◌, ◌^◌, ◌<◌, ◌≤◌}
use Rattle.std.specs.Int.{div_ceil}

-- d is the least number with n at most base ^ d
pub record IsLeastPower (base n d : ℕ) : Type 0 where
  pub reaches : n ≤ base ^ d
  pub least : (e : ℕ) → e < d → base ^ e < n

-- r is the k-th root of m, rounded down
pub record IsRoot (k m r : ℕ) : Type 0 where
  pub within : r ^ k ≤ m
  pub greatest : m < (r + 1) ^ k

-- the number of slabs along each axis, for n elements: the root, by the number of axes, of the number of subtrees that
-- hold them, where the subtrees are one level lower than the lowest tree that holds them
pub record IsClusterNumber (most axes n c : ℕ) : Type 0 where
  pub below : ℕ
  pub depth : IsLeastPower most n (suc below)
  pub root : IsRoot axes (div_ceil n (most ^ below)) c
