use Rattle.rstar_uses.proofs.Sides.{on_edge_told, off_edge_told}
use Rattle.rstar_uses.proofs.polygons.is_on_edge.Goals as goal

pub returns-then-is_beside : goal.returns-then-is_beside
returns-then-is_beside c = on_edge_told c.args.point c.args.a c.args.b _ _ _ c.is_beside.ensures c.if-is_beside.true c.area.ensures c.area-then-is_beside.ensures

pub returns-else-is_beside : goal.returns-else-is_beside
returns-else-is_beside c = off_edge_told c.args.point c.args.a c.args.b _ c.is_beside.ensures c.if-is_beside.false
