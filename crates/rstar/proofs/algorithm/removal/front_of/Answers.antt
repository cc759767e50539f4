use Rattle.std.proofs.Common.{sym, arith}
use Rattle.rstar.proofs.algorithm.removal.front_of.Goals as goal

-- the next node is none of those that were merged
pub returns-in-Some-clause-merged : goal.returns-in-Some-clause-merged
returns-in-Some-clause-merged g c = λ passed many kept. (rw (sym c.in-Some.ensures.value) at kept) (omega (arith, c.if-take-left.true, many))
