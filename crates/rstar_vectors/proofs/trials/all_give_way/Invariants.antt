use Rattle.rstar_vectors.proofs.trials.all_give_way.Given as goal

abbrev pub invariant-loop-k : goal.invariant-loop-k
invariant-loop-k g l = g.S.Trial.is_whole l.trial
