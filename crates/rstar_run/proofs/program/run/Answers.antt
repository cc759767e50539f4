use Rattle.std.proofs.Common.{subst, sym, true≢false}
use Rattle.rstar_run.specs.Prints.{Printed}
use Rattle.rstar_run.proofs.Runs.{ran, ran_in_part}
use Rattle.rstar_run.proofs.program.run.Goals as goal

pub returns-in-Ok : goal.returns-in-Ok
returns-in-Ok g c =
    let (said, answered, printed) = c.answer_all-ended.ensures in
    let old = g.W.Write.contents c.args.output.now in
    let mid = g.W.Write.contents c.answer_all-ended.new.output in
    let held = c.answer_all-ended.new.printer.held.items in
    ran (g.R.Read.remaining c.args.input) old mid (g.W.Write.contents c.close.new.output) said held c.answer_all-ended.result c.status.result answered
    (subst (λ none. Printed c.answer_all-ended.result old mid none said held) c.new-printer.ensures printed) c.status.ensures c.in-Ok.ensures.all (λ e. true≢false (sym (c.in-Ok.ensures.silent e).0))

pub returns-in-Err : goal.returns-in-Err
returns-in-Err g c =
    let (said, answered, printed) = c.answer_all-ended.ensures in
    let old = g.W.Write.contents c.args.output.now in
    let mid = g.W.Write.contents c.answer_all-ended.new.output in
    let held = c.answer_all-ended.new.printer.held.items in
    ran_in_part (g.R.Read.remaining c.args.input) old mid (g.W.Write.contents c.close.new.output) said held c.answer_all-ended.result answered
    (subst (λ none. Printed c.answer_all-ended.result old mid none said held) c.new-printer.ensures printed) c.in-Err.ensures.front (λ e. (c.in-Err.ensures.silent e).1)
