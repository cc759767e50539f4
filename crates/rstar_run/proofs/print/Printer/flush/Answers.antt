use Rattle.std.proofs.KnownBytes.{Appends-kept}
use Rattle.rstar_run.proofs.Prints.{front_kept}
use Rattle.rstar_run.proofs.print.Printer.flush.Goals as goal

pub returns-in-Ok-clause-all : goal.returns-in-Ok-clause-all
returns-in-Ok-clause-all g c = Appends-kept _ _ _ _ c.in_ok-write_held.ensures.all c.in-Ok.ensures.bytes

pub returns-in-Ok-clause-front : goal.returns-in-Ok-clause-front
returns-in-Ok-clause-front g c = front_kept _ c.write_held.ensures.front c.in-Ok.ensures.bytes

pub returns-in-Err-clause-front : goal.returns-in-Err-clause-front
returns-in-Err-clause-front g c = front_kept _ c.write_held.ensures.front c.in-Err.ensures.bytes
