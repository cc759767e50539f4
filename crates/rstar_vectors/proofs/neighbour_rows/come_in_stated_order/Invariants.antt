use Rattle.rstar.specs.ByOrder.{IsSearchingByOrder}
use Rattle.rstar_vectors.proofs.neighbour_rows.come_in_stated_order.Given as goal

abbrev pub invariant-loop-turn : goal.invariant-loop-turn
invariant-loop-turn g l = IsSearchingByOrder g.T.Envelope.Envelope.boxes g.T.RTreeObject.object g.T.PointDistance.distances g.T.Ord.cmp g.T.Envelope.Point.Point.DIMENSIONS g.T.Envelope.Point.Point.coord g.T.Envelope.Point.Scalar.Ord.cmp g.T.Envelope.Point.Scalar.Number.value l.neighbors
