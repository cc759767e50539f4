use Rattle.std.proofs.Common.{◌∙◌, ap}
use Rattle.std.proofs.lemmas.Result.{on_ok_weaker}
use Rattle.rstar_run.proofs.Prints.{writes_then_holds, writes_both, front_of_longer, front_after, front_of_printed}
use Rattle.rstar_run.proofs.print.Printer.put_behind.Goals as goal

pub returns-in_err-write_held-clause-front : goal.returns-in_err-write_held-clause-front
returns-in_err-write_held-clause-front g c = front_of_longer _ c.write_held.ensures.front

pub returns-in-Ok-clause-all : goal.returns-in-Ok-clause-all
returns-in-Ok-clause-all g c = writes_then_holds _ _ _ _ _ _ c.in_ok-write_held.ensures.all c.in_ok-write_held.ensures.none c.in-Ok.ensures.ok

pub returns-in-Ok-clause-front : goal.returns-in-Ok-clause-front
returns-in-Ok-clause-front g c = front_of_printed (writes_then_holds _ _ _ _ _ _ c.in_ok-write_held.ensures.all c.in_ok-write_held.ensures.none c.in-Ok.ensures.ok)

pub returns-in-Err-clause-all : goal.returns-in-Err-clause-all
returns-in-Err-clause-all g c =
    let none = ap (λ held. held.items) c.in-Err.ensures.err ∙ c.in_ok-write_held.ensures.none in
    on_ok_weaker c.write_out.result (λ a. writes_both _ _ _ _ _ _ c.in_ok-write_held.ensures.all a none) c.write_out.ensures.all

pub returns-in-Err-clause-front : goal.returns-in-Err-clause-front
returns-in-Err-clause-front g c = front_after _ _ c.in_ok-write_held.ensures.all c.write_out.ensures.front
