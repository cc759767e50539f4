use Rattle.rstar.specs.Neighbors.{IsSearching}
use Rattle.rstar_vectors.proofs.neighbour_rows.gives.Given as goal

abbrev pub invariant-loop-k : goal.invariant-loop-k
invariant-loop-k g l = IsSearching g.T.Envelope.Envelope.boxes g.T.RTreeObject.object g.T.PointDistance.distances g.T.Envelope.Point.Point.DIMENSIONS g.T.Envelope.Point.Point.coord g.T.Envelope.Point.Scalar.Ord.cmp g.T.Envelope.Point.Scalar.Number.value l.neighbors
