use Rattle.rstar.specs.Nodes.{children_of}
use Rattle.rstar.specs.Clones.{IsNodeClone}
use Rattle.rstar.specs.inside.Traversals.{IsLevel}
use Rattle.rstar.proofs.lists.Items.{zip_push, item_has, zip_whole}
use Rattle.rstar.proofs.trees.Clones.{leaf_cloned, parent_cloned}
use Rattle.rstar.proofs.rtree.copies.+cloned_parent.Goals.{in-Leaf+in_ok-clone-in-Leaf, in-Parent+in_ok-cloned_parent-in-Parent}
use Rattle.rstar.proofs.rtree.copies.+cloned_parent.Goals as goal

pub loop-node-preserved : goal.loop-node-preserved
loop-node-preserved g t c = λ h level.
    let below = item_has (IsLevel h) (children_of c.args.parent.now) _ c.loop-node.node-index _ c.as_slice-node-items.ensures.value c.loop-node-test.true c.node-item.is level in
    zip_push (IsNodeClone g.T.Clone.is_clone h) (children_of c.args.parent.now) _ _ _ c.loop-node.node-index _ _ c.as_slice-node-items.ensures.value (c.loop-node.invariant h level) c.loop-node-test.true c.node-item.is
    (elim c.match-node.branch [
      | in-Leaf+in_ok-clone-in-Leaf w ↦ leaf_cloned g.T.Clone.is_clone h _ _ _ _ w.in-Leaf.is w.copy-is w.in_ok-clone-in-Leaf.ensures.cases below
      | in-Parent+in_ok-cloned_parent-in-Parent w ↦ parent_cloned g.T.Clone.is_clone h _ _ _ _ w.in-Parent.is w.copy-is w.in_ok-cloned_parent-in-Parent.ensures below
    ]) c.in_ok-push.ensures.items

pub returns : goal.returns
returns g t c = λ h level. record {
  envelope = c.copied_envelope.ensures.same;
  children = zip_whole _ _ _ _ c.loop-node.node-index c.as_slice-node-items.ensures.value c.loop-node-test.false (c.loop-node.invariant h level);
}
