use Rattle.std.proofs.Common.{◌∙◌}
use Rattle.rstar_base.proofs.Corners.{corners-hull}
use Rattle.rstar_base.proofs.aabb.AABB.from_center.Goals as goal

pub returns : goal.returns
returns g c = c.from_corners.ensures ∙ corners-hull g.P.Point.DIMENSIONS _ _ _ _ c.moved_up.ensures c.moved_down.ensures
