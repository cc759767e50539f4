use Rattle.rstar_vectors.proofs.neighbour_rows.come.Goals as goal

pub loop-turn-preserved : goal.loop-turn-preserved
loop-turn-preserved g c = c.next-item.ensures.steps.1
