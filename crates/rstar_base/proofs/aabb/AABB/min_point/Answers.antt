use Rattle.std.proofs.Common.{◌∙◌}
use Rattle.rstar_base.specs.laws.PointLemmas.{table-same}
use Rattle.rstar_base.specs.Distances.{nearest_on_axis}
use Rattle.rstar_base.proofs.Corners.{corners-nearest}
use Rattle.rstar_base.proofs.aabb.AABB.min_point.Goals as goal

pub returns : goal.returns
returns g c =
    let k = g.P.Point.coord in
    rw (← c.self.view_is)
    (table-same g.P.Point.DIMENSIONS _ (λ i. nearest_on_axis (k c.self.inside.lower i, k c.self.inside.upper i) (k c.args.point.now i)) c.nearest_between.ensures
    ∙ corners-nearest g.P.Point.DIMENSIONS (k c.self.inside.lower) (k c.self.inside.upper) (k c.args.point.now))
