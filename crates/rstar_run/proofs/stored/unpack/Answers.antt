use Rattle.std.proofs.Common.{Ok, Err, subst}
use Rattle.rstar_run.specs.Points.{points_text}
use Rattle.rstar_run.specs.Prints.{Tells}
use Rattle.rstar_run.proofs.Told.{told}
use Rattle.rstar_run.proofs.stored.unpack.Goals as goal

pub returns-in-Ok : goal.returns-in-Ok
returns-in-Ok g c = record {
  answer = Ok c.in-Ok.points;
  is = c.in-Ok.ensures;
  told = subst (λ text. Tells (g.W.Write.contents c.args.output.now) (g.W.Write.contents c.finish.new.output) (points_text text) 0 c.finish.result) c.deref.ensures.value
      (told _ _ _ _ _ _ _ _ c.new-printer.ensures c.print_points-printed.result c.print_points-printed.ensures.all c.print_points-printed.ensures.front c.finish.ensures.all c.finish.ensures.failed);
}

pub returns-in-Err : goal.returns-in-Err
returns-in-Err g c = record { answer = Err c.in-Err.fault; is = c.in-Err.ensures; told = c.refuse.ensures }
