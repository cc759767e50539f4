use Rattle.std.proofs.Common.{subst, List, ℤ}
use Rattle.rstar_base.specs.Boxes.{IsBox}
use Rattle.rstar_base.specs.laws.RectangleLaws.{box_or_empty-same}
use Rattle.rstar_base.proofs.primitives.Rectangle.from_aabb.Goals as goal

pub returns-clause-is : goal.returns-clause-is
returns-clause-is g c =
    let low = g.P.Scalar.Bounded.low in
    let high = g.P.Scalar.Bounded.high in
    let n = g.P.Point.DIMENSIONS in
    box_or_empty-same low high n (g.P.Point.coord c.lower.result) (g.P.Point.coord c.upper.result)
    g.met.P.Scalar.RTreeNum.low_law g.met.P.Scalar.RTreeNum.high_law c.args.aabb
    (subst (λ (b : List (ℤ × ℤ)). IsBox low high n b) c.aabb.view_is c.aabb.invariant.2) c.lower.ensures c.upper.ensures
