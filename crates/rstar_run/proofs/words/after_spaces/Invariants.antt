use Rattle.std.proofs.Common.{◌≡◌, length}
use Rattle.rstar_run.specs.Fronts.{after_spaces}
use Rattle.rstar_run.proofs.words.after_spaces.Given as goal

abbrev pub invariant-loop-rest : goal.invariant-loop-rest
invariant-loop-rest l = after_spaces l.rest ≡ after_spaces l.text

abbrev pub decreases-loop-rest : goal.decreases-loop-rest
decreases-loop-rest l = length l.rest
