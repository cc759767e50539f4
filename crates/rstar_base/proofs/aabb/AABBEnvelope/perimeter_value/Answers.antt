use Rattle.std.proofs.Common.{◌∙◌, ap, pos, min, unsigned_abs}
use Rattle.rstar_base.proofs.Measures.{corners-perimeter}
use Rattle.rstar_base.proofs.aabb.AABBEnvelope.perimeter_value.Goals as goal

pub returns-clause-value : goal.returns-clause-value
returns-clause-value g c =
    let k = g.P.Point.coord in
    rw (← c.self.view_is)
    (c.extent_perimeter.ensures ∙ ap (λ s. pos (min s (unsigned_abs g.P.Scalar.Bounded.high))) (corners-perimeter g.P.Point.DIMENSIONS (k c.self.inside.lower) (k c.self.inside.upper)))
