use Rattle.std.proofs.Common.{length}
use Rattle.rstar_vectors.proofs.pairs.has_pairs.Given as goal

abbrev pub decreases-loop-one : goal.decreases-loop-one
decreases-loop-one g l = length l.rest
