use Rattle.rstar_uses.proofs.PolygonBoxes.{merged}
use Rattle.rstar_uses.proofs.polygons.Polygons.at.Goals as goal

pub selected-requires-clause-lawful : goal.selected-requires-clause-lawful
selected-requires-clause-lawful c = λ polygon e box other is full. merged c.args.point polygon.1 e box other is
