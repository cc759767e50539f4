use Rattle.rstar_base_vectors.proofs.generic.alike.Goals as goal

pub returns : goal.returns
returns g c = λ e. g.met.T.EqualEnvelopes.equal_law _ _ c.envelope-a.ensures.own c.envelope-b.ensures.own (rw (← c.eq.ensures) e)
