use Rattle.rstar_run.proofs.Prints.{nothing, none_written, shown}
use Rattle.rstar_run.proofs.program.show_before_reading.Goals as goal

pub returns-in-Some-clause-all : goal.returns-in-Some-clause-all
returns-in-Some-clause-all g c = nothing _ _

pub returns-in-Some-clause-front : goal.returns-in-Some-clause-front
returns-in-Some-clause-front g c = none_written _ _

pub returns-in-None-clause-all : goal.returns-in-None-clause-all
returns-in-None-clause-all g c = shown _ _ _ _ c.flush.result c.flush.ensures.all c.flush.ensures.none
