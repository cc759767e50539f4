use Rattle.std.proofs.Common.{[], ap, codes}
use Rattle.std.proofs.lemmas.Result.{on_ok_weaker}
use Rattle.rstar_run.specs.Stored.{fault_text}
use Rattle.rstar_run.proofs.Prints.{at_first, last, some_more}
use Rattle.rstar_run.proofs.stored.print_fault.Goals as goal

pub returns-in-Usage-clause-all : goal.returns-in-Usage-clause-all
returns-in-Usage-clause-all g c = on_ok_weaker c.put.result (λ p. last (at_first _ _ _) (ap fault_text c.in-Usage.is) p) c.put.ensures.all

pub returns-in-Usage-clause-front : goal.returns-in-Usage-clause-front
returns-in-Usage-clause-front g c = some_more (codes "error: usage\n") [] (at_first _ _ _) (ap fault_text c.in-Usage.is) c.put.ensures.front
