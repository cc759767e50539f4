use Rattle.rstar_vectors.proofs.trials.take_all.Given as goal

abbrev pub invariant-loop-k : goal.invariant-loop-k
invariant-loop-k g l = g.S.Trial.is_whole l.trial
