use Rattle.std.proofs.Common.{◌∙◌}
use Rattle.std.proofs.lemmas.Result.{IfOk-weaker}
use Rattle.rstar_vectors.proofs.Callers.{opened-in}
use Rattle.rstar_vectors.proofs.payloads.all_of.Goals as goal

pub returns-in-Ok-clause-given : goal.returns-in-Ok-clause-given
returns-in-Ok-clause-given g c = IfOk-weaker c.walked.result _ _ (λ r given. given ∙ c.in-Ok.ensures.all) c.walked.ensures.given

pub returns-in-Ok-clause-opened : goal.returns-in-Ok-clause-opened
returns-in-Ok-clause-opened g c = IfOk-weaker c.walked.result _ _ (λ r opened. opened-in opened c.in-Ok.ensures.made) c.walked.ensures.opened
