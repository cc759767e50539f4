use Rattle.rstar_run.proofs.Prints.{holds, none_written}
use Rattle.rstar_run.proofs.print.Printer.put.Goals as goal

pub returns-in-Ok-clause-all : goal.returns-in-Ok-clause-all
returns-in-Ok-clause-all g c = holds _ _ _ _ c.in-Ok.ensures.ok

pub returns-in-Ok-clause-front : goal.returns-in-Ok-clause-front
returns-in-Ok-clause-front g c = none_written _ _
