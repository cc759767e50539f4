use Rattle.rstar_vectors.proofs.loads.+gather.Given as goal

abbrev pub decreases-gather : goal.decreases-gather
decreases-gather g l = l.levels
