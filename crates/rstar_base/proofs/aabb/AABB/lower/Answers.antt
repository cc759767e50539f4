use Rattle.std.proofs.Common.{sym, ap, ◌∙◌, List, ℤ, map}
use Rattle.rstar_base.specs.laws.PointLemmas.{table-firsts, table-same}
use Rattle.rstar_base.proofs.aabb.AABB.lower.Goals as goal

pub returns : goal.returns
returns g c =
    table-same g.P.Point.DIMENSIONS _ _ c.copied_point.ensures.coords ∙ sym (table-firsts g.P.Point.DIMENSIONS _ (g.P.Point.coord c.self.inside.upper))
    ∙ ap (λ (b : List (ℤ × ℤ)). map (λ (x : ℤ × ℤ). x.0) b) c.self.view_is
