use Rattle.rstar.specs.ByOrder.{IsSearchingByOrder}
use Rattle.rstar.specs.inside.Searches.{parents_first}
use Rattle.rstar.proofs.searching.ByOrder.{next-in-order}
use Rattle.rstar.proofs.searching.SearchTurns.{measured-by}
use Rattle.rstar.proofs.selecting.Progress as progress
use Rattle.rstar.proofs.algorithm.nearest_neighbor.by_order.NeighborsByOrderParentNodeRTreeNodeDistancePointOfIterator.next.Goals as goal

pub returns-clause-steps : goal.returns-clause-steps
unfolding IsSearchingByOrder
returns-clause-steps g c =
    let told = c.next_neighbor.ensures in
    let law = measured-by g.met.T.Envelope.Envelope.envelope_laws g.met.T.RTreeObject.object_law g.met.T.PointDistance.distance_laws c.known.ensures.range in
    let gives = progress.gives-neighbor g.T.Envelope.Envelope.boxes g.T.PointDistance.distances g.T.Envelope.Point.Point.DIMENSIONS g.T.Envelope.Point.Point.coord g.T.Envelope.Point.Scalar.Ord.cmp (parents_first g.T.Ord.cmp) g.T.Envelope.Point.Scalar.Number.value g.T.RTreeObject.object
    c.args.self.now.search c.next_neighbor.new.self c.args.self.now.point (λ x. x.0.now) c.next_neighbor.result told.root told.ready told.gives told.none told.over told.stays told.refused told.goes_on told.ends told.once told.ended in (
      gives,
      next-in-order law g.T.Ord.cmp g.T.Envelope.Point.Scalar.Ord.cmp g.T.Envelope.Point.Scalar.Number.value c.args.self.now.search c.next_neighbor.new.self c.args.self.now.point (λ x. x.0.now) c.next_neighbor.result told.root told.ready told.goes_on told.gives told.first,
      told.distance,
      told.ready,
    )

pub returns-clause-goes : goal.returns-clause-goes
unfolding IsSearchingByOrder
returns-clause-goes g c =
    progress.goes-on c.next_neighbor.result c.next_neighbor.ensures.ready tt (progress.fewer-left c.next_neighbor.result c.next_neighbor.ensures)
