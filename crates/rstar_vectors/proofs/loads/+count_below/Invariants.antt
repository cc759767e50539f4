use Rattle.rstar_vectors.proofs.loads.+count_below.Given as goal

abbrev pub decreases-count_below : goal.decreases-count_below
decreases-count_below g l = l.levels
