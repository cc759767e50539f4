use Rattle.std.proofs.Common.{◌∙◌, ap, filter}
use Rattle.std.proofs.lemmas.Result.{IfOk-weaker}
use Rattle.rstar_uses.specs.Numbered.{count_and_sum, lies_in}
use Rattle.rstar_uses.proofs.geofence.Fences.count_and_sum_in.Goals as goal

pub returns : goal.returns
returns c = IfOk-weaker c.count_and_sum.result _ _ (λ told is. is ∙ ap (λ fences. count_and_sum (filter (lies_in c.args.area) fences)) c.self.view_is) c.count_and_sum.ensures
