use Rattle.rstar_uses.proofs.PolygonBoxes.{box-first}
use Rattle.rstar_uses.proofs.polygons.Polygon.contains.Goals as goal

pub returns-else-contains_point : goal.returns-else-contains_point
returns-else-contains_point c = box-first c.args.point _ _ _ _ _ c.self.view_is c.self.invariant.0 c.contains_point.ensures.test c.if-contains_point.false
