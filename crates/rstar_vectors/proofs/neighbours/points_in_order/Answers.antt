use Rattle.std.proofs.lemmas.Result.{IfOk-weaker}
use Rattle.rstar.proofs.searching.InOrder.{neighbors_collected}
use Rattle.rstar_vectors.proofs.neighbours.points_in_order.Goals as goal

pub returns-clause-all : goal.returns-clause-all
returns-clause-all c = IfOk-weaker c.try_collect.result _ _ (λ all run. (neighbors_collected _ _ _ _ _ _ _ _ _ _ c.nearest_neighbor_iter.ensures.begun all run).0) c.try_collect.ensures.ran

pub returns-clause-order : goal.returns-clause-order
returns-clause-order c = IfOk-weaker c.try_collect.result _ _ (λ all run. (neighbors_collected _ _ _ _ _ _ _ _ _ _ c.nearest_neighbor_iter.ensures.begun all run).1) c.try_collect.ensures.ran
