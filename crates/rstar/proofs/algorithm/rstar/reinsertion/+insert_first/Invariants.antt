use Rattle.rstar.proofs.algorithm.rstar.reinsertion.+insert_first.Given as goal

abbrev pub decreases-insert_first : goal.decreases-insert_first
decreases-insert_first g l = l.levels
