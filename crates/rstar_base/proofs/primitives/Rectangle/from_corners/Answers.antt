use Rattle.std.proofs.Common.{ap, ◌∙◌}
use Rattle.rstar_base.specs.Boxes.{is_empty_box}
use Rattle.rstar_base.specs.laws.RectangleLaws.{hull-filled}
use Rattle.rstar_base.proofs.primitives.Rectangle.from_corners.Goals as goal

pub returns-clause-filled : goal.returns-clause-filled
returns-clause-filled g c =
    ap is_empty_box (c.from_aabb.ensures.is ∙ c.from_corners.ensures)
    ∙ hull-filled g.P.Point.DIMENSIONS (g.P.Point.coord c.args.corner_1) (g.P.Point.coord c.args.corner_2)
