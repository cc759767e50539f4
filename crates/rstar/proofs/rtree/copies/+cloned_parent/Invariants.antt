use Rattle.std.proofs.Common.{ℕ, take}
use Rattle.std.specs.List.{AllByRecursion, AllZip}
use Rattle.rstar.specs.Nodes.{children_of}
use Rattle.rstar.specs.inside.Traversals.{IsLevel}
use Rattle.rstar.specs.Clones.{IsNodeClone}
use Rattle.rstar.proofs.rtree.copies.+cloned_parent.Given as goal

-- the clones of the nodes so far
abbrev pub invariant-loop-node : goal.invariant-loop-node
invariant-loop-node g l = (h : ℕ) → AllByRecursion (IsLevel h) (children_of l.fn.parent)
    → AllZip (IsNodeClone g.T.Clone.is_clone h) (take l.node-index (children_of l.fn.parent)) l.children.items
