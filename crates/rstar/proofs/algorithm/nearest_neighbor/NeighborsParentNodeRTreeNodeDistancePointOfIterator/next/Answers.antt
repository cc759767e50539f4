use Rattle.std.proofs.Common.{Some, None, Ok, Err}
use Rattle.rstar_base.specs.Points.{table}
use Rattle.rstar.specs.Neighbors.{IsSearching}
use Rattle.rstar.specs.inside.Searches.{any_first}
use Rattle.rstar.proofs.selecting.Progress as progress
use Rattle.rstar.proofs.algorithm.nearest_neighbor.NeighborsParentNodeRTreeNodeDistancePointOfIterator.next.Goals as goal

pub returns-in-Ok : goal.returns-in-Ok
unfolding IsSearching
returns-in-Ok g c =
    let told = c.in-Some.ensures in
    let point = table g.T.Envelope.Point.Point.DIMENSIONS (g.T.Envelope.Point.Point.coord c.args.self.now.point) in
    let fewer = progress.given-fewer g.T.Envelope.Envelope.boxes g.T.PointDistance.distances point c.args.self.now.search c.next_neighbor.new.self c.in-Ok.t.now (rw c.in-Ok.is at told.gives) (rw c.in-Ok.is at told.goes_on) told.once in
    record {
      steps = (
        progress.gives-neighbor g.T.Envelope.Envelope.boxes g.T.PointDistance.distances g.T.Envelope.Point.Point.DIMENSIONS g.T.Envelope.Point.Point.coord g.T.Envelope.Point.Scalar.Ord.cmp any_first g.T.Envelope.Point.Scalar.Number.value g.T.RTreeObject.object
            c.args.self.now.search c.next_neighbor.new.self c.args.self.now.point (λ x. x.now) (Some (Ok c.in-Ok.t)) told.root told.ready (rw c.in-Ok.is at told.gives) tt tt tt tt (rw c.in-Ok.is at told.goes_on) tt told.once told.ended,
        told.ready,
      );
      goes = progress.goes-on (Some (Ok c.in-Ok.t)) told.ready tt fewer;
    }

pub returns-in-Err : goal.returns-in-Err
unfolding IsSearching
returns-in-Err g c =
    let told = c.in-Some.ensures in
    let fewer = progress.refused-fewer g.T.Envelope.Envelope.boxes g.T.PointDistance.distances (table g.T.Envelope.Point.Point.DIMENSIONS (g.T.Envelope.Point.Point.coord c.args.self.now.point)) c.args.self.now.search c.next_neighbor.new.self (rw c.in-Err.is at told.ends) told.once in
    record {
      steps = (
        progress.gives-neighbor g.T.Envelope.Envelope.boxes g.T.PointDistance.distances g.T.Envelope.Point.Point.DIMENSIONS g.T.Envelope.Point.Point.coord g.T.Envelope.Point.Scalar.Ord.cmp any_first g.T.Envelope.Point.Scalar.Number.value g.T.RTreeObject.object
            c.args.self.now.search c.next_neighbor.new.self c.args.self.now.point (λ x. x.now) (Some (Err c.in-Err.refused)) told.root told.ready tt tt tt tt (rw c.in-Err.is at told.refused) tt (rw c.in-Err.is at told.ends) told.once told.ended,
        told.ready,
      );
      goes = progress.goes-on (Some (Err c.in-Err.refused)) told.ready tt fewer;
    }

pub returns-in-None-clause-steps : goal.returns-in-None-clause-steps
unfolding IsSearching
returns-in-None-clause-steps g c =
    let told = c.in-None.ensures in (
      progress.gives-neighbor g.T.Envelope.Envelope.boxes g.T.PointDistance.distances g.T.Envelope.Point.Point.DIMENSIONS g.T.Envelope.Point.Point.coord g.T.Envelope.Point.Scalar.Ord.cmp any_first g.T.Envelope.Point.Scalar.Number.value g.T.RTreeObject.object
          c.args.self.now.search c.next_neighbor.new.self c.args.self.now.point (λ x. x.now) None told.root told.ready tt told.none told.over told.stays tt tt tt tt told.ended,
      told.ready,
    )
