use Rattle.std.proofs.Common.{map, Ok}
use Rattle.std.specs.Iterator.{size, Yields}
use Rattle.rstar.specs.Neighbors.{with_distances, neighbors_left, IsSearching, GivesElement}
use Rattle.rstar_vectors.proofs.neighbours.in_order.Given as goal

-- each call so far gave an element
abbrev pub invariant-loop-found : goal.invariant-loop-found
invariant-loop-found g l = record {
  searching : IsSearching g.T.Envelope.Envelope.boxes g.T.RTreeObject.object g.T.PointDistance.distances g.T.Envelope.Point.Point.DIMENSIONS g.T.Envelope.Point.Point.coord g.T.Envelope.Point.Scalar.Ord.cmp g.T.Envelope.Point.Scalar.Number.value (with_distances l.neighbors);
  given : Yields (GivesElement g.T.Envelope.Envelope.boxes g.T.RTreeObject.object g.T.PointDistance.distances g.T.Envelope.Point.Point.DIMENSIONS g.T.Envelope.Point.Point.coord g.T.Envelope.Point.Scalar.Ord.cmp g.T.Envelope.Point.Scalar.Number.value)
      l.initial.neighbors (map Ok l.all.items) l.neighbors;
}

abbrev pub decreases-loop-found : goal.decreases-loop-found
decreases-loop-found g l = size (neighbors_left (with_distances l.neighbors))
