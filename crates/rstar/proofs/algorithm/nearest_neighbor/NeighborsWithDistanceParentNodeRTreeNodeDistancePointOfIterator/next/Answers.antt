use Rattle.rstar.specs.inside.Searches.{any_first}
use Rattle.rstar.specs.Neighbors.{IsSearching}
use Rattle.rstar.proofs.selecting.Progress as progress
use Rattle.rstar.proofs.algorithm.nearest_neighbor.NeighborsWithDistanceParentNodeRTreeNodeDistancePointOfIterator.next.Goals as goal

pub returns-clause-steps : goal.returns-clause-steps
unfolding IsSearching
returns-clause-steps g c =
    let told = c.next_neighbor.ensures in (
      progress.gives-neighbor g.T.Envelope.Envelope.boxes g.T.PointDistance.distances g.T.Envelope.Point.Point.DIMENSIONS g.T.Envelope.Point.Point.coord g.T.Envelope.Point.Scalar.Ord.cmp any_first g.T.Envelope.Point.Scalar.Number.value g.T.RTreeObject.object
          c.args.self.now.search c.next_neighbor.new.self c.args.self.now.point (λ x. x.0.now) c.next_neighbor.result told.root told.ready told.gives told.none told.over told.stays told.refused told.goes_on told.ends told.once told.ended,
      told.distance,
      told.ready,
    )

pub returns-clause-goes : goal.returns-clause-goes
unfolding IsSearching
returns-clause-goes g c =
    progress.goes-on c.next_neighbor.result c.next_neighbor.ensures.ready tt (progress.fewer-left c.next_neighbor.result c.next_neighbor.ensures)
