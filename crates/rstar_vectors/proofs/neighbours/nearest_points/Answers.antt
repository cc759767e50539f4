use Rattle.std.proofs.lemmas.Result.{IfOk-weaker}
use Rattle.rstar.proofs.searching.InOrder.{neighbors_taken}
use Rattle.rstar_vectors.proofs.neighbours.nearest_points.Goals as goal

pub returns : goal.returns
returns c =
    IfOk-weaker c.listed.result _ _ (λ all run.
    neighbors_taken _ _ _ _ _ _ _ _ _ _ c.nearest_neighbor_iter.ensures.begun c.args.most all.items c.take.result run.1.0 run.0 c.take.ensures.source c.take.ensures.count run.1.1 run.1.2) c.listed.ensures
