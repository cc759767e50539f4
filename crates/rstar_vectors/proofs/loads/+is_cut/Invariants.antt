use Rattle.rstar_vectors.proofs.loads.+is_cut.Given as goal

abbrev pub decreases-is_cut : goal.decreases-is_cut
decreases-is_cut g l = l.levels
