use Rattle.rstar_base.specs.laws.BoxLaws.{corners-same, corners-box, min_max}
use Rattle.rstar_base.proofs.aabb.AABB.from_corners.Goals as goal

pub invariant_of-result : goal.invariant_of-result
invariant_of-result g c = (
  c.least_point.ensures.whole,
  c.greatest_point.ensures.whole,
  corners-box _ _ _ _ _ c.least_point.ensures.range c.greatest_point.ensures.range
      (λ i l. min_max _ _ (g.P.Point.coord c.args.p i) (g.P.Point.coord c.args.q i) (c.least_point.ensures.coords i l) (c.greatest_point.ensures.coords i l)),
)

pub returns : goal.returns
returns g c = corners-same _ _ _ _ _ c.least_point.ensures.coords c.greatest_point.ensures.coords
