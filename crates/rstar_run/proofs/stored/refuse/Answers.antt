use Rattle.std.proofs.Common.{subst}
use Rattle.rstar_run.specs.Prints.{Tells}
use Rattle.rstar_run.specs.Stored.{fault_text}
use Rattle.rstar_run.proofs.Told.{told}
use Rattle.rstar_run.proofs.stored.refuse.Goals as goal

pub returns : goal.returns
returns g c =
    subst (λ status. Tells (g.W.Write.contents c.args.output.now) (g.W.Write.contents c.finish.new.output) (fault_text c.args.fault) status c.finish.result) c.fault_status.ensures
    (told _ _ _ _ _ _ _ _ c.new-printer.ensures c.print_fault-printed.result c.print_fault-printed.ensures.all c.print_fault-printed.ensures.front c.finish.ensures.all c.finish.ensures.failed)
