use Rattle.std.proofs.Common.{rules}
use Rattle.rstar.proofs.visiting.Writing.{written_as}
use Rattle.rstar_vectors.proofs.visits.clear.Goals as goal

pub returns-clause-cleared : goal.returns-clause-cleared
returns-clause-cleared g c =
    written_as _ _ _ _ _ _ c.locate_in_envelope_intersecting_int_mut-went_on.ensures.written (λ fence. (fence.0, 0)) (λ v x r y w left. search rules)
