use Rattle.rstar.specs.Shown.{shown_root}
use Rattle.rstar.specs.Stored.{stored_size}
use Rattle.rstar.proofs.storing.Written.{AreWritten}
use Rattle.rstar.proofs.stored.+put_parent.Given as goal

abbrev pub decreases-put_parent : goal.decreases-put_parent
decreases-put_parent l = stored_size (shown_root l.parent.now)

abbrev pub invariant-loop-child : goal.invariant-loop-child
invariant-loop-child l = AreWritten l.fn.parent l.child-index l.fn.out l.out
