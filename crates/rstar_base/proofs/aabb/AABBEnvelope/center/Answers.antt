use Rattle.std.proofs.Common.{◌∙◌, ◌+ℤ◌, pos, ap}
use Rattle.std.specs.Prelude.{int_div}
use Rattle.rstar_base.specs.laws.PointLemmas.{table-same}
use Rattle.rstar_base.specs.Measures.{box_center}
use Rattle.rstar_base.proofs.Measures.{corners-center}
use Rattle.rstar_base.proofs.aabb.AABBEnvelope.center.Goals as goal

pub returns-clause-coords : goal.returns-clause-coords
returns-clause-coords g c =
    let k = g.P.Point.coord in
    table-same g.P.Point.DIMENSIONS _ (λ i. int_div (k c.self.inside.lower i +ℤ k c.self.inside.upper i) (pos 2)) c.middle_point.ensures
    ∙ corners-center g.P.Point.DIMENSIONS (k c.self.inside.lower) (k c.self.inside.upper) ∙ ap box_center c.self.view_is
