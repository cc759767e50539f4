use Rattle.rstar_vectors.proofs.neighbour_rows.come_in_stated_order.Goals as goal

pub loop-turn-preserved : goal.loop-turn-preserved
loop-turn-preserved g c = c.next-item.ensures.steps.3
