use Rattle.std.proofs.Common.{rules}
use Rattle.rstar.proofs.visiting.Writing.{written_all, written_as}
use Rattle.rstar_vectors.proofs.visits.clear_below.Goals as goal

pub returns-clause-cleared : goal.returns-clause-cleared
returns-clause-cleared g c =
    let all = written_all _ c.new-func.ensures.selects (c.requires, c.new-func.ensures.lawful) (record { last = c.select_nodes_mut-went_on.new.visitor; within = c.select_nodes_mut-went_on.ensures.written }) in
    written_as _ _ _ _ _ _ all (λ fence. (fence.0, 0)) (λ v x r y w left. search rules)
