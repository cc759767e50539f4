use Rattle.std.proofs.Common.{Ok, Err, subst}
use Rattle.rstar_run.specs.Prints.{Tells}
use Rattle.rstar_run.proofs.Told.{told}
use Rattle.rstar_run.proofs.stored.pack.Goals as goal

pub returns-in-Ok : goal.returns-in-Ok
returns-in-Ok g c = record {
  answer = Ok c.in-Ok.bytes;
  is = c.in-Ok.ensures;
  told = subst (λ text. Tells (g.W.Write.contents c.args.output.now) (g.W.Write.contents c.finish.new.output) text 0 c.finish.result) c.deref.ensures.value
      (told _ _ _ _ _ _ _ _ c.new-printer.ensures c.put-printed.result c.put-printed.ensures.all c.put-printed.ensures.front c.finish.ensures.all c.finish.ensures.failed);
}

pub returns-in-Err : goal.returns-in-Err
returns-in-Err g c = record { answer = Err c.in-Err.fault; is = c.in-Err.ensures; told = c.refuse.ensures }
