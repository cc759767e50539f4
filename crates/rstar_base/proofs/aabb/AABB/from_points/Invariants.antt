-- The box so far is the merge of the boxes of the points so far.
use Rattle.std.proofs.Common.{◌≡◌}
use Rattle.std.specs.List.{AllByRecursion}
use Rattle.std.specs.Iterator.{EndsFrom, items_left}
use Rattle.std.proofs.iter.Next as it
use Rattle.rstar_base.specs.Boxes.{between_corners, IsBox}
use Rattle.rstar_base.specs.BoxData.{box_data}
use Rattle.rstar_base.specs.Hulls.{hull}
use Rattle.rstar_base.proofs.aabb.AABB.from_points.Given as goal

abbrev pub invariant-loop-p : goal.invariant-loop-p
invariant-loop-p g l =
    let low = g.P.Scalar.Bounded.low in
    let high = g.P.Scalar.Bounded.high in
    let n = g.P.Point.DIMENSIONS in
    it.Ran g.I.IntoIter.Iterator.can_next (EndsFrom g.I.IntoIter.Iterator.remaining) (items_left g.I.IntoIter.Iterator.remaining) g.I.IntoIter.Iterator.next_gives
    (λ xs. AllByRecursion (λ p. IsBox low high n (between_corners n (g.P.Point.coord p.now) (g.P.Point.coord p.now))) xs
    × (l.hull ≡ hull (box_data low high n) (λ p. between_corners n (g.P.Point.coord p.now) (g.P.Point.coord p.now)) xs)) l.initial.rest l.rest

abbrev pub decreases-loop-p : goal.decreases-loop-p
decreases-loop-p g l = items_left g.I.IntoIter.Iterator.remaining l.rest
