use Rattle.std.proofs.Common.{◌∙◌, ap, min, filter}
use Rattle.std.proofs.lemmas.Result.{IfOk-weaker}
use Rattle.rstar.specs.Nodes.{reach_of}
use Rattle.rstar_base.specs.Counts.{usize_max}
use Rattle.rstar.specs.Trees.{root_of, elements_in}
use Rattle.rstar_vectors.proofs.Callers.{opened-in}
use Rattle.rstar_vectors.proofs.payloads.equal.Goals as goal

pub returns-in-Ok-clause-given : goal.returns-in-Ok-clause-given
returns-in-Ok-clause-given g c =
    let all = c.in-Ok.ensures.all c.new-func.ensures.lawful ∙ ap (λ f. filter f (elements_in c.args.tree.now)) c.new-func.ensures.selects in
    IfOk-weaker c.walked.result _ _ (λ r given. given ∙ all) c.walked.ensures.given

pub returns-in-Ok-clause-opened : goal.returns-in-Ok-clause-opened
returns-in-Ok-clause-opened g c =
    let asked = ap (λ a. min (reach_of a (root_of c.args.tree.now)) usize_max) c.new-func.ensures.accepts in
    IfOk-weaker c.walked.result _ _ (λ r opened. opened-in opened c.in-Ok.ensures.made ∙ asked) c.walked.ensures.opened
