use Rattle.std.proofs.Common.{◌≡◌, ◌<◌, ◌≤◌, ◌+◌, ℕ, ◌∙◌, sym, refl, ap, arith, map, rules}
use Rattle.std.specs.Vec.{with_items}
use Rattle.std.specs.declared.ops.ControlFlow.TheVariants.{Break, Continue}
use Rattle.rstar.specs.declared.node.RTreeNode.{RTreeNode}
use Rattle.rstar.specs.declared.node.RTreeNode.TheVariants.{outs-Leaf, outs-Parent}
use Rattle.rstar.specs.Nodes.{total}
use Rattle.rstar.specs.inside.Traversals.{steps}
use Rattle.rstar.proofs.trees.ByChildren.{steps-Parent}
use Rattle.rstar.proofs.visiting.Writing.{leaf-called, leaf-passed, parent-visited, parent-refused, refilled, halfway-start, here-steps, halfway-next, halfway-break, halfway-end}
use Rattle.rstar.proofs.visits.+writing.Goals as goal

-- ---- a node

pub visit_node_mut-visit_nodes_mut-requires : goal.visit_node_mut-visit_nodes_mut-requires
visit_node_mut-visit_nodes_mut-requires g t c κs within =
    let here = ap (λ n. steps n) c.in-Parent.is in let below = steps-Parent c.in-Parent.parent in
    let same = ap (λ ns. total (map steps ns)) (rw c.in-Parent.parent-is at c.as_mut_slice.ensures.value) in
    (omega (arith, c.decreases), search (rules, within))

pub visit_node_mut-returns-then-should_unpack_leaf : goal.visit_node_mut-returns-then-should_unpack_leaf
visit_node_mut-returns-then-should_unpack_leaf g t c =
    simp (c.in-Leaf.is, outs-Leaf)
    (leaf-called g.T.Covered.object (g.F.Question.accepts c.args.func.now) (g.F.Question.selects c.args.func.now) (goal.V-step g) c.args.visitor.now c.in-Leaf.t _ _ c.visitor.result c.visitor.new.self refl
    (sym (rw c.in-Leaf.t-is at c.should_unpack_leaf.ensures) ∙ c.if-should_unpack_leaf.true) (rw c.in-Leaf.t-is at c.visitor.ensures))

pub visit_node_mut-returns-else-should_unpack_leaf : goal.visit_node_mut-returns-else-should_unpack_leaf
visit_node_mut-returns-else-should_unpack_leaf g t c =
    simp (c.in-Leaf.is, outs-Leaf)
    (leaf-passed g.T.Covered.object (g.F.Question.accepts c.args.func.now) (g.F.Question.selects c.args.func.now) (goal.V-step g) c.args.visitor.now c.in-Leaf.t
    (sym (rw c.in-Leaf.t-is at c.should_unpack_leaf.ensures) ∙ c.if-should_unpack_leaf.false))

pub visit_node_mut-returns-then-should_unpack_parent : goal.visit_node_mut-returns-then-should_unpack_parent
visit_node_mut-returns-then-should_unpack_parent g t c =
    let o = g.T.Covered.object in let accepts = g.F.Question.accepts c.args.func.now in
    let selects = g.F.Question.selects c.args.func.now in let p = c.in-Parent.parent in
    let new = c.visit_nodes_mut.new.nodes in
    let below = refilled o accepts selects (goal.V-step g) p.children c.as_mut_slice.result.now new c.args.visitor.now c.visit_nodes_mut.result c.visit_nodes_mut.new.visitor
    (rw c.in-Parent.parent-is at c.as_mut_slice.ensures.value) c.visit_nodes_mut.auto.nodes c.visit_nodes_mut.ensures in
    simp (c.in-Parent.is, outs-Parent)
    (parent-visited o accepts selects (goal.V-step g) c.args.visitor.now p (record p { children = with_items p.children new }) c.visit_nodes_mut.result c.visit_nodes_mut.new.visitor refl
    (sym (rw c.in-Parent.parent-is at c.should_unpack_parent.ensures) ∙ c.if-should_unpack_parent.true) below)

pub visit_node_mut-returns-else-should_unpack_parent : goal.visit_node_mut-returns-else-should_unpack_parent
visit_node_mut-returns-else-should_unpack_parent g t c =
    simp (c.in-Parent.is, outs-Parent)
    (parent-refused g.T.Covered.object (g.F.Question.accepts c.args.func.now) (g.F.Question.selects c.args.func.now) (goal.V-step g) c.args.visitor.now c.in-Parent.parent
    (sym (rw c.in-Parent.parent-is at c.should_unpack_parent.ensures) ∙ c.if-should_unpack_parent.false))

-- ---- some nodes

pub visit_nodes_mut-loop-index-init : goal.visit_nodes_mut-loop-index-init
visit_nodes_mut-loop-index-init g t c =
    halfway-start g.T.Covered.object (g.F.Question.accepts c.args.func.now) (g.F.Question.selects c.args.func.now) (goal.V-step g) c.args.visitor.now c.args.nodes.now

below_nodes : (node all t : ℕ) → 1 + all ≡ t → node ≤ all → node < t
below_nodes node all t e h = omega arith

pub visit_nodes_mut-visit_node_mut-requires : goal.visit_nodes_mut-visit_node_mut-requires
visit_nodes_mut-visit_node_mut-requires g t c κs within =
    let less = λ (d : RTreeNode g.row.T.Denot g.row.T-Cover.Denot). here-steps _ _ _ _ c.loop-index.invariant d c.loop-index-test.true in
    (below_nodes _ (total (map steps c.args.nodes.now)) t c.decreases (less _), search (rules, within))

pub visit_nodes_mut-returns-in-Break : goal.visit_nodes_mut-returns-in-Break
visit_nodes_mut-returns-in-Break g t c =
    halfway-break _ _ _ _
    (halfway-next _ _ _ _ c.loop-index.invariant _ c.loop-index-test.true c.visit_node_mut.new.node (Break c.in-Break.b) c.visit_node_mut.new.visitor c.in-Break.ensures)

pub visit_nodes_mut-loop-index-preserved : goal.visit_nodes_mut-loop-index-preserved
visit_nodes_mut-loop-index-preserved g t c =
    halfway-next _ _ _ _ c.loop-index.invariant _ c.loop-index-test.true c.visit_node_mut.new.node (Continue tt) c.visit_node_mut.new.visitor c.in_default.ensures

pub visit_nodes_mut-returns : goal.visit_nodes_mut-returns
visit_nodes_mut-returns g t c = halfway-end _ _ _ _ c.loop-index.invariant c.loop-index-test.false
