use Rattle.rstar_uses.proofs.Rings.{walk-begun, on-edge, goes-on}
use Rattle.rstar_uses.proofs.polygons.is_inside.Goals as goal

pub loop-to-init : goal.loop-to-init
loop-to-init c = walk-begun c.args.point c.in-Some.last.now c.args.corners.now c.in-Some.ensures.item.3.0 (c.in-Some.ensures.item.3.1 _)

pub loop-to-preserved : goal.loop-to-preserved
loop-to-preserved c = goes-on c.args.point c.loop-to.from c.loop-to.is_inside c.args.corners.now c.loop-to.to-index c.loop-to-test.true _ c.loop-to.invariant _ c.if-is_on_edge.ensures c.is_crossed-is_inside.ensures

pub returns-then-is_on_edge : goal.returns-then-is_on_edge
returns-then-is_on_edge c = on-edge c.args.point c.loop-to.from c.loop-to.is_inside c.args.corners.now c.loop-to.to-index c.loop-to-test.true _ c.loop-to.invariant c.if-is_on_edge.ensures
