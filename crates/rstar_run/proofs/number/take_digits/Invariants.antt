use Rattle.std.proofs.Common.{length}
use Rattle.rstar_run.proofs.Digits.{DigitsSoFar}
use Rattle.rstar_run.proofs.number.take_digits.Given as goal

abbrev pub invariant-loop-rest : goal.invariant-loop-rest
invariant-loop-rest l = DigitsSoFar l.text l.rest l.value

abbrev pub decreases-loop-rest : goal.decreases-loop-rest
decreases-loop-rest l = length l.rest
