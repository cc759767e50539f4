use Rattle.std.proofs.Common.{rules, inr, arith, length, map, ap, false, true}
use Rattle.std.proofs.lemmas.List.{map_push}
use Rattle.std.proofs.lemmas.Result.{err_from_is_err_and}
use Rattle.rstar.specs.inside.ParentBounds.{IsKeptInner}
use Rattle.rstar.specs.Nodes.{IsElement}
use Rattle.rstar.specs.Shown.{shown}
use Rattle.rstar.specs.Stored.{Place, Box, boxes, places}
use Rattle.rstar.specs.StoredReading.{node_at}
use Rattle.rstar.proofs.trees.ByChildren.{elements-Leaf, elements-Parent}
use Rattle.rstar.proofs.inserting.Insertion.{leaf_tree, tree_of}
use Rattle.rstar.proofs.storing.Bytes.{point_tells}
use Rattle.rstar.proofs.storing.Laws.{goes_on, ends, is_done, kept_push, points_push, point_element, leaf_read, parent_read, parent_kept, parent_shown}
use Rattle.rstar.proofs.stored.+read.Goals as goal

pub children_at-returns-in_err-node-clause-read : goal.children_at-returns-in_err-node-clause-read
children_at-returns-in_err-node-clause-read t c =
    let p = err_from_is_err_and c.from_residual-in_err-node.result c.from_residual-in_err-node.ensures.1 in
    rw (p.1, p.2) (ends (node_at c.args.below) c.in_err-node.field-0.0 (map shown c.loop.children.items) c.args.count c.loop.counter c.loop.rest.now _ c.loop-test.true c.in_err-node.ensures.read c.loop.invariant.read)

pub children_at-loop-preserved : goal.children_at-loop-preserved
children_at-loop-preserved t c =
    let read = rw (← map_push shown c.loop.children.items c.in_ok-node.node, ← c.push_reserved.ensures.items) at
    (goes_on (node_at c.args.below) (map shown c.loop.children.items) c.args.count c.loop.counter c.loop.rest.now (shown c.in_ok-node.node) c.in_ok-node.after.now _ c.loop-test.true c.in_ok-node.ensures.read c.loop.invariant.read) in
    let kept = kept_push boxes places c.loop.widest c.node_at.new.widest c.args.below c.loop.children.items _ c.in_ok-node.node c.in_ok-node.ensures.wider.0 c.push_reserved.ensures.items c.loop.invariant.kept c.in_ok-node.ensures.kept in
    let points = points_push c.loop.children.items _ c.in_ok-node.node c.args.points.now c.loop.points c.node_at.new.points c.push_reserved.ensures.items c.loop.invariant.points c.in_ok-node.ensures.points in
    let here = c.in_ok-node.ensures in
    search rules

pub children_at-returns-clause-read : goal.children_at-returns-clause-read
children_at-returns-clause-read t c =
    is_done (node_at c.args.below) (map shown c.loop.children.items) c.args.count c.loop.counter c.loop.rest.now _ c.loop-test.false c.loop.invariant.read

pub node_at-returns-then-height-eq0-clause-read : goal.node_at-returns-then-height-eq0-clause-read
node_at-returns-then-height-eq0-clause-read t c = leaf_read c.args.height c.args.bytes.now c.in_ok-point.point c.in_ok-point.rest.now c.if-height-eq0.true c.in_ok-point.ensures.read

pub node_at-returns-then-height-eq0-clause-kept : goal.node_at-returns-then-height-eq0-clause-kept
node_at-returns-then-height-eq0-clause-kept t c = (
  leaf_tree (IsKeptInner boxes places c.args.widest.now) (IsElement boxes places) c.args.height c.in_ok-point.point c.if-height-eq0.true
      (point_element c.in_ok-point.point (rw c.in_ok-point.ensures.read at (point_tells c.args.bytes.now (λ i. omega (arith, c.type_inv.bytes i))).told).1),
  tt,
)

pub node_at-returns-then-height-eq0-clause-points : goal.node_at-returns-then-height-eq0-clause-points
node_at-returns-then-height-eq0-clause-points t c = let one = ap length (elements-Leaf Place Box c.in_ok-point.point) in omega (arith, one)

pub node_at-returns-clause-read : goal.node_at-returns-clause-read
node_at-returns-clause-read t c = parent_read c.args.height c.args.bytes.now c.in_ok-parent.parent c.in_ok-parent.rest.now (omega (arith, c.if-height-eq0.false)) c.in_ok-parent.ensures.read

pub node_at-returns-clause-kept : goal.node_at-returns-clause-kept
node_at-returns-clause-kept t c =
    (tree_of (IsKeptInner boxes places c.parent_at.new.widest) (IsElement boxes places) c.args.height c.in_ok-parent.parent (omega (arith, c.if-height-eq0.false)) c.in_ok-parent.ensures.kept.0 c.in_ok-parent.ensures.kept.1, tt)

pub node_at-returns-clause-points : goal.node_at-returns-clause-points
node_at-returns-clause-points t c = let one = ap length (elements-Parent c.in_ok-parent.parent) in omega (arith, one, c.in_ok-parent.ensures.points)

pub parent_at-returns-then-not-has_corners-clause-read : goal.parent_at-returns-then-not-has_corners-clause-read
parent_at-returns-then-not-has_corners-clause-read t c =
    inr (parent_shown (node_at c.args.below) c.args.bytes.now c.in_ok-count.rest.now c.in_ok-lower.rest.now c.in_ok-upper.rest.now c.in_ok-children.rest.now c.in_ok-count.count c.in_ok-lower.lower c.in_ok-upper.upper c.in_ok-children.children.items c.envelope_for_children-envelope.result false
    c.in_ok-count.ensures.read (search rules) (search rules) c.in_ok-lower.ensures.read c.in_ok-upper.ensures.read c.in_ok-children.ensures.read (rw c.deref.ensures.value at c.envelope_for_children-envelope.ensures.hull) (search rules))

pub parent_at-returns-clause-read : goal.parent_at-returns-clause-read
parent_at-returns-clause-read t c =
    parent_shown (node_at c.args.below) c.args.bytes.now c.in_ok-count.rest.now c.in_ok-lower.rest.now c.in_ok-upper.rest.now c.in_ok-children.rest.now c.in_ok-count.count c.in_ok-lower.lower c.in_ok-upper.upper c.in_ok-children.children.items c.envelope_for_children-envelope.result true
    c.in_ok-count.ensures.read (search rules) (search rules) c.in_ok-lower.ensures.read c.in_ok-upper.ensures.read c.in_ok-children.ensures.read (rw c.deref.ensures.value at c.envelope_for_children-envelope.ensures.hull) (search rules)

pub parent_at-returns-clause-kept : goal.parent_at-returns-clause-kept
parent_at-returns-clause-kept t c =
    parent_kept c.children_at.new.widest _ c.args.below _ (search rules) (search rules) (search rules) (rw c.deref.ensures.value at c.envelope_for_children-envelope.ensures.hull) c.in_ok-children.ensures.kept
