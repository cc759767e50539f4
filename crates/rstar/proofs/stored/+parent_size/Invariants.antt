use Rattle.std.proofs.Common.{◌≡◌, ◌+◌, ◌-◌, ◌^◌, min, take}
use Rattle.std.specs.Prelude.{sum_by}
use Rattle.rstar.specs.Nodes.{children_of}
use Rattle.rstar.proofs.storing.Written.{size_of}
use Rattle.rstar.proofs.stored.+parent_size.Given as goal

abbrev pub invariant-loop-node : goal.invariant-loop-node
invariant-loop-node l = l.size ≡ min (40 + sum_by size_of (take l.node-index (children_of l.fn.parent))) (2 ^ 64 - 1)
