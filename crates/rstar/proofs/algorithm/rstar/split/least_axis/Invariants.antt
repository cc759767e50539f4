use Rattle.std.proofs.Common.{◌<◌, IsPermutation}
use Rattle.rstar.proofs.algorithm.rstar.split.least_axis.Given as goal

abbrev pub invariant-loop-axis : goal.invariant-loop-axis
invariant-loop-axis g l = record {
  same : IsPermutation l.fn.list l.list;
  best : l.best < g.T.Envelope.Point.Point.DIMENSIONS;
}
