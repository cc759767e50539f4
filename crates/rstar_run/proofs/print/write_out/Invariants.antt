use Rattle.std.proofs.Common.{[]}
use Rattle.rstar_run.specs.Prints.{Prints}
use Rattle.rstar_run.proofs.print.write_out.Given as goal

-- all but the rest is written
abbrev pub invariant-loop : goal.invariant-loop
invariant-loop g l = Prints (g.W.Write.contents l.fn.output) (g.W.Write.contents l.output) [] l.fn.text l.rest
