use Rattle.std.proofs.Common.{◌<◌, length}
use Rattle.rstar.proofs.algorithm.rstar.choose.least_overlapping.Given as goal

abbrev pub invariant-loop-index : goal.invariant-loop-index
invariant-loop-index g l = l.best < length l.children
