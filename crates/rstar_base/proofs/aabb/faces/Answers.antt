use Rattle.rstar_base.proofs.MinMax.{least_clamped, greatest_clamped}
use Rattle.rstar_base.proofs.aabb.faces.Goals as goal

pub returns-clause-near : goal.returns-clause-near
returns-clause-near g c = least_clamped _ _ _ _ _ _ c.distance_2-a.ensures c.distance_2-b.ensures c.least.ensures.value

pub returns-clause-far : goal.returns-clause-far
returns-clause-far g c = greatest_clamped _ _ _ _ _ _ c.distance_2-a.ensures c.distance_2-b.ensures c.greatest.ensures.value
