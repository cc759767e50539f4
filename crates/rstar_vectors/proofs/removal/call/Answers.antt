use Rattle.rstar_vectors.proofs.removal.call.Goals as goal

pub returns-clause-same : goal.returns-clause-same
returns-clause-same g c = c.loop-call.invariant.same
