use Rattle.rstar_base.proofs.MinMax.{greatest_clamped}
use Rattle.rstar_base_vectors.proofs.interval.gap.Goals as goal

pub returns : goal.returns
returns g c = greatest_clamped _ _ _ _ _ _ c.length.ensures c.length-2.ensures c.greatest.ensures.value
