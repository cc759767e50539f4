use Rattle.std.proofs.Common.{subst}
use Rattle.rstar.specs.Trees.{elements_in}
use Rattle.rstar_run.specs.Items.{StoreStep}
use Rattle.rstar_run.proofs.store.Store.step.Goals as goal

pub returns : goal.returns
returns c = subst (λ old. StoreStep old c.args.command c.step_by_order.result (elements_in c.step_by_order.new.tree)) c.self.view_is c.step_by_order.ensures.step
