use Rattle.std.proofs.Common.{◌∙◌, refl, sym}
use Rattle.rstar.proofs.visiting.Visits.{look-leaf, look-parent}
use Rattle.rstar.proofs.visits.RefSliceRTreeNodeNodesRef.look.Goals as goal

pub returns-then-should_unpack_leaf : goal.returns-then-should_unpack_leaf
returns-then-should_unpack_leaf g c =
    look-leaf (g.F.Question.accepts c.args.func.now) (g.F.Question.selects c.args.func.now) c.args.self.now c.in-Some.rest.now c.in-Some.first.now c.in-Leaf.t _
    c.in-Some.ensures.cases.0 c.in-Leaf.is (sym c.should_unpack_leaf.ensures ∙ c.if-should_unpack_leaf.true)

pub returns-else-should_unpack_leaf : goal.returns-else-should_unpack_leaf
returns-else-should_unpack_leaf g c =
    look-leaf (g.F.Question.accepts c.args.func.now) (g.F.Question.selects c.args.func.now) c.args.self.now c.in-Some.rest.now c.in-Some.first.now c.in-Leaf.t _
    c.in-Some.ensures.cases.0 c.in-Leaf.is (sym c.should_unpack_leaf.ensures ∙ c.if-should_unpack_leaf.false)

pub returns-then-should_unpack_parent : goal.returns-then-should_unpack_parent
returns-then-should_unpack_parent g c =
    look-parent (g.F.Question.accepts c.args.func.now) (g.F.Question.selects c.args.func.now) c.args.self.now c.in-Some.rest.now c.as_slice.result.now c.in-Some.first.now c.in-Parent.p _
    c.in-Some.ensures.cases.0 c.in-Parent.is (sym c.should_unpack_parent.ensures ∙ c.if-should_unpack_parent.true) c.as_slice.ensures.value

pub returns-else-should_unpack_parent : goal.returns-else-should_unpack_parent
returns-else-should_unpack_parent g c =
    let passed = look-parent (g.F.Question.accepts c.args.func.now) (g.F.Question.selects c.args.func.now) c.args.self.now c.in-Some.rest.now _ c.in-Some.first.now c.in-Parent.p _
    c.in-Some.ensures.cases.0 c.in-Parent.is (sym c.should_unpack_parent.ensures ∙ c.if-should_unpack_parent.false) refl in
    (passed.0, passed.1)
