use Rattle.rstar_run.specs.Lines.{bytes_left}
use Rattle.rstar_run.proofs.Loads.{LoadSoFar}
use Rattle.rstar_run.proofs.program.read_load.Given as goal

-- the lines so far are those of the items
abbrev pub invariant-loop : goal.invariant-loop
invariant-loop g l =
    LoadSoFar l.fn.count (bytes_left g.R.Read.remaining l.fn.lines) (bytes_left g.R.Read.remaining l.lines) l.fn.lines.number l.lines.number l.items.items
    (g.W.Write.contents l.fn.output) (g.W.Write.contents l.output) l.fn.printer.held.items l.printer.held.items
