use Rattle.std.proofs.Common.{sym, ap, ◌∙◌, List, ℤ, map}
use Rattle.rstar_base.specs.laws.PointLemmas.{table-seconds, table-same}
use Rattle.rstar_base.proofs.aabb.AABB.upper.Goals as goal

pub returns : goal.returns
returns g c =
    table-same g.P.Point.DIMENSIONS _ _ c.copied_point.ensures.coords ∙ sym (table-seconds g.P.Point.DIMENSIONS (g.P.Point.coord c.self.inside.lower) _)
    ∙ ap (λ (b : List (ℤ × ℤ)). map (λ (x : ℤ × ℤ). x.1) b) c.self.view_is
