use Rattle.std.proofs.Common.{◌∙◌, refl}
use Rattle.rstar.proofs.selecting.Chains.{selection_end}
use Rattle.rstar_vectors.proofs.Drained.{all-reached}
use Rattle.rstar_vectors.proofs.payloads.walked.Goals as goal

pub returns-in-Ok-clause-given : goal.returns-in-Ok-clause-given
returns-in-Ok-clause-given g c = let run = c.in-Ok.ensures in selection_end _ _ refl _ _ run.1 _ run.2

pub returns-in-Ok-clause-opened : goal.returns-in-Ok-clause-opened
returns-in-Ok-clause-opened g c = c.opened.ensures ∙ all-reached _ _ _ _ _ c.in-Ok.ensures
