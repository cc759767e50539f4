use Rattle.std.proofs.Common.{◌∙◌, ap, pos, min, unsigned_abs}
use Rattle.rstar_base.proofs.Measures.{corners-area}
use Rattle.rstar_base.proofs.aabb.AABBEnvelope.area.Goals as goal

pub returns-clause-value : goal.returns-clause-value
returns-clause-value g c =
    let k = g.P.Point.coord in
    rw (← c.self.view_is)
    (c.extent_area.ensures ∙ ap (λ s. pos (min s (unsigned_abs g.P.Scalar.Bounded.high))) (corners-area g.P.Point.DIMENSIONS (k c.self.inside.lower) (k c.self.inside.upper)))
