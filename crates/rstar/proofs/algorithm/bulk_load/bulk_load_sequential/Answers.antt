use Rattle.std.proofs.Common.{◌∙◌}
use Rattle.std.proofs.lemmas.Result.{IfOk-weaker}
use Rattle.rstar.proofs.loading.Loads.{last_itself, whole_load}
use Rattle.rstar.proofs.algorithm.bulk_load.bulk_load_sequential.Goals as goal

pub returns-clause-same : goal.returns-clause-same
returns-clause-same g c = rw (c.len-len.ensures ∙ c.args.elements.ok.0, last_itself c.args.elements.items) at c.load_node.ensures.same

pub returns-clause-whole : goal.returns-clause-whole
returns-clause-whole g c = IfOk-weaker c.load_node.result _ _ (λ root fresh. search (fresh.whole)) c.load_node.ensures.fresh

pub returns-clause-loaded : goal.returns-clause-loaded
returns-clause-loaded g c =
    whole_load _ _ _ _ _ _ c.args.elements.items c.load_node.result (rw (c.len-len.ensures ∙ c.args.elements.ok.0) at c.load_depth-levels.ensures.depth) (returns-clause-same g c) c.load_node.ensures.fresh
