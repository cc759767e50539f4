use Rattle.std.proofs.Common.{◌≡◌, map}
use Rattle.rstar.specs.declared.node.RTreeNode.{Leaf}
use Rattle.rstar.proofs.algorithm.bulk_load.parts.leaves.Given as goal

abbrev pub invariant-loop-t : goal.invariant-loop-t
invariant-loop-t g l = l.leaves.items ≡ map Leaf l.yielded
