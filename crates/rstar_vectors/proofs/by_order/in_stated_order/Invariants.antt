use Rattle.std.proofs.Common.{map, Ok}
use Rattle.std.specs.Iterator.{size, Yields}
use Rattle.rstar.specs.ByOrder.{neighbors_left, IsSearchingByOrder, GivesByOrder}
use Rattle.rstar_vectors.proofs.by_order.in_stated_order.Given as goal

-- each call so far gave an element
abbrev pub invariant-loop-found : goal.invariant-loop-found
invariant-loop-found g l = record {
  searching : IsSearchingByOrder g.T.Envelope.Envelope.boxes g.T.RTreeObject.object g.T.PointDistance.distances g.T.Ord.cmp g.T.Envelope.Point.Point.DIMENSIONS g.T.Envelope.Point.Point.coord g.T.Envelope.Point.Scalar.Ord.cmp g.T.Envelope.Point.Scalar.Number.value l.neighbors;
  given : Yields (GivesByOrder g.T.Envelope.Envelope.boxes g.T.RTreeObject.object g.T.PointDistance.distances g.T.Ord.cmp g.T.Envelope.Point.Point.DIMENSIONS g.T.Envelope.Point.Point.coord g.T.Envelope.Point.Scalar.Ord.cmp g.T.Envelope.Point.Scalar.Number.value)
      l.initial.neighbors (map Ok l.all.items) l.neighbors;
}

abbrev pub decreases-loop-found : goal.decreases-loop-found
decreases-loop-found g l = size (neighbors_left l.neighbors)
