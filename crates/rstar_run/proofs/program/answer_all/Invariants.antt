use Rattle.rstar_run.specs.Lines.{bytes_left}
use Rattle.rstar_run.proofs.Runs.{Reached}
use Rattle.rstar_run.proofs.program.answer_all.Given as goal

-- the lines so far are answered
abbrev pub invariant-loop : goal.invariant-loop
invariant-loop g l =
    Reached (g.R.Read.remaining l.fn.input) (bytes_left g.R.Read.remaining l.lines) l.lines.number l.store
    (g.W.Write.contents l.fn.output) (g.W.Write.contents l.output) l.fn.printer.held.items l.printer.held.items
