use Rattle.std.proofs.Common.{◌<◌, length, IfSome}
use Rattle.rstar.proofs.algorithm.rstar.choose.smallest_container.Given as goal

abbrev pub invariant-loop-index : goal.invariant-loop-index
invariant-loop-index g l = IfSome l.best (λ i. i < length l.children)
