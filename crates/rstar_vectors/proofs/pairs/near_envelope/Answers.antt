use Rattle.std.proofs.Common.{◌∙◌}
use Rattle.std.proofs.lemmas.Result.{IfOk-weaker}
use Rattle.rstar_vectors.proofs.pairs.near_envelope.Goals as goal

pub returns-in-Ok : goal.returns-in-Ok
returns-in-Ok g c = record { given = IfOk-weaker c.walked.result _ _ (λ r given. given ∙ c.in-Ok.ensures.all) c.walked.ensures.given }
