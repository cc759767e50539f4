-- Node sizes.
use Rattle.std.specs.Prelude.{ℕ, ◌+◌, ◌*◌, ◌<◌, ◌≤◌, ◌^◌}

-- node sizes: the fewest and the most children of a parent, and how many are reinserted
pub record AreNodeSizes (min max reinserted : ℕ) : Type 0 where
  pub max_at_least_four : 4 ≤ max
  -- one more child can still be counted
  pub max_fits : max + 1 < 2 ^ 64
  pub min_positive : 0 < min
  -- at most half of `max`, rounded up
  pub min_at_most_half : 2 * min ≤ max + 1
  pub reinsertion_leaves : reinserted + min < max
