use Rattle.std.proofs.Common.{◌∙◌, ap, pos, min, unsigned_abs}
use Rattle.rstar_base.proofs.Measures.{corners-overlap, product_below-same, extent_same}
use Rattle.rstar_base.proofs.aabb.AABBEnvelope.intersection_area.Goals as goal

pub returns-clause-value : goal.returns-clause-value
returns-clause-value g c =
    let k = g.P.Point.coord in
    rw (← c.self.view_is, ← c.other.view_is)
    (c.extent_area.ensures ∙ ap (λ s. pos (min s (unsigned_abs g.P.Scalar.Bounded.high)))
    (product_below-same g.P.Point.DIMENSIONS _ _ (λ i l. extent_same _ _ _ _ (c.greatest_point.ensures.coords i l) (c.least_point.ensures.coords i l))
    ∙ corners-overlap g.P.Point.DIMENSIONS (k c.self.inside.lower) (k c.self.inside.upper) (k c.other.inside.lower) (k c.other.inside.upper)))
