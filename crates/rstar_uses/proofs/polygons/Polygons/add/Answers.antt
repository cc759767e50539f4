use Rattle.rstar_uses.proofs.PolygonBoxes.{not-empty}
use Rattle.rstar_uses.proofs.polygons.Polygons.add.Goals as goal

pub insert-requires-clause-element : goal.insert-requires-clause-element
insert-requires-clause-element c = not-empty c.args.polygon.1 c.corners-known.ensures.some
