use Rattle.rstar_vectors.proofs.scenarios.+merge_below.Given as goal

abbrev pub decreases-merge_below : goal.decreases-merge_below
decreases-merge_below g l = l.levels
