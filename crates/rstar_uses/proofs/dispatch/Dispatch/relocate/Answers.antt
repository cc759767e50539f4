use Rattle.std.proofs.lemmas.Result.{IfOk-weaker}
use Rattle.rstar_uses.proofs.Vehicles.{was-there, has-moved}
use Rattle.rstar_uses.proofs.dispatch.Dispatch.relocate.Goals as goal

pub returns-clause-there : goal.returns-clause-there
returns-clause-there c = IfOk-weaker c.replaced.result _ _ (λ there is. was-there _ _ _ _ there c.new.ensures c.self.view_is is) c.replaced.ensures.there

pub returns-clause-moved : goal.returns-clause-moved
returns-clause-moved c = IfOk-weaker c.replaced.result _ _ (λ there taken. λ e. has-moved _ _ _ _ _ _ _ c.new.ensures c.new-2.ensures c.self.view_is (taken e)) c.replaced.ensures.replaced
