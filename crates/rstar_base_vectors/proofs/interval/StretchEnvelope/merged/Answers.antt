use Rattle.std.proofs.Common.{rules}
use Rattle.rstar_base_vectors.specs.laws.StretchLaws.{merged_stretch}
use Rattle.rstar_base_vectors.proofs.interval.StretchEnvelope.merged.Goals as goal

pub invariant_of-result : goal.invariant_of-result
invariant_of-result c = let m = merged_stretch _ _ c.self.invariant c.other.invariant in search rules
