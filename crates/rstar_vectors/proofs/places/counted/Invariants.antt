use Rattle.std.proofs.Common.{◌≡◌, min, length}
use Rattle.rstar_base.specs.Counts.{usize_max}
use Rattle.rstar_vectors.proofs.places.counted.Given as goal

-- the items given so far are counted
abbrev pub invariant-loop : goal.invariant-loop
invariant-loop g l = l.count ≡ min (length l.yielded) usize_max
