use Rattle.std.proofs.Common.{◌-◌, ◌^◌, min, ap, sym, ◌∙◌}
use Rattle.rstar.specs.Nodes.{children_of}
use Rattle.rstar.specs.Stored.{stored_size}
use Rattle.rstar.proofs.storing.Written.{leaf_shown, root_shown, size_more, whole_size}
use Rattle.rstar.proofs.stored.+parent_size.Goals as goal
use Rattle.rstar.proofs.stored.+parent_size.Goals.{in-Leaf, in-Parent}

pub loop-node-preserved : goal.loop-node-preserved
loop-node-preserved t c =
    elim c.match-node.branch [
      | in-Leaf w ↦ rw w.size-is (size_more (children_of c.args.parent.now) c.as_slice-node-items.ensures.value c.loop-node-test.true c.node-item.is c.loop-node.size 16 _ c.loop-node.invariant
          (ap (λ k. min k (2 ^ 64 - 1)) (sym (ap stored_size (leaf_shown _ _ w.in-Leaf.is)))) w.saturating_add-size.ensures)
      | in-Parent w ↦ rw w.size-is (size_more (children_of c.args.parent.now) c.as_slice-node-items.ensures.value c.loop-node-test.true c.node-item.is c.loop-node.size w.parent_size.result _ c.loop-node.invariant
          (w.parent_size.ensures ∙ ap (λ k. min k (2 ^ 64 - 1)) (sym (ap stored_size (root_shown _ _ w.in-Parent.is)))) w.saturating_add-size-in-Parent.ensures)
    ]

pub returns : goal.returns
returns t c = c.loop-node.invariant ∙ ap (λ k. min k (2 ^ 64 - 1)) (whole_size c.args.parent.now _ c.loop-node.node-index c.as_slice-node-items.ensures.value c.loop-node-test.false)
