use Rattle.std.proofs.Common.{◌++◌, sym, subst}
use Rattle.rstar_run.specs.Prints.{AppendsFront}
use Rattle.rstar_run.specs.Texts.{end_text}
use Rattle.rstar_run.proofs.Prints.{prints_front}
use Rattle.rstar_run.proofs.program.close.Goals as goal

pub returns-in_ok-print_stop-in-Err-clause-front : goal.returns-in_ok-print_stop-in-Err-clause-front
returns-in_ok-print_stop-in-Err-clause-front g c =
    subst (λ ended. AppendsFront (g.W.Write.contents c.args.output.now) (g.W.Write.contents c.flush-in-Err.new.output) (c.args.printer.now.held.items ++ end_text ended)) (sym c.in-Err.is)
    (prints_front c.in_ok-print_stop-in-Err.ensures.all c.flush-in-Err.ensures.front)
