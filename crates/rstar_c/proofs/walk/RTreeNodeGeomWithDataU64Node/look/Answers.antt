use Rattle.std.proofs.Common.{◌∙◌, ◌∷◌, [], ap, sym}
use Rattle.rstar_c.proofs.Walks.{seen-leaf, seen-parent, seen-children}
use Rattle.rstar_c.proofs.walk.RTreeNodeGeomWithDataU64Node.look.Goals as goal

pub returns-then-should_unpack_leaf : goal.returns-then-should_unpack_leaf
returns-then-should_unpack_leaf g c =
    seen-leaf (λ t. t.1) (g.F.SelectionFunction.accepts c.args.question.now) (g.F.SelectionFunction.selects c.args.question.now) c.args.self.now c.in-Leaf.t _
    c.in-Leaf.is (sym c.should_unpack_leaf.ensures ∙ c.if-should_unpack_leaf.true)
    ∙ ap (λ n. n ∷ []) (ap (λ t. t.1) (sym c.t.view_is))

pub returns-else-should_unpack_leaf : goal.returns-else-should_unpack_leaf
returns-else-should_unpack_leaf g c =
    seen-leaf (λ t. t.1) (g.F.SelectionFunction.accepts c.args.question.now) (g.F.SelectionFunction.selects c.args.question.now) c.args.self.now c.in-Leaf.t _
    c.in-Leaf.is (sym c.should_unpack_leaf.ensures ∙ c.if-should_unpack_leaf.false)

pub returns-then-should_unpack_parent : goal.returns-then-should_unpack_parent
returns-then-should_unpack_parent g c =
    let accepts = g.F.SelectionFunction.accepts c.args.question.now in
    seen-children (λ t. t.1) accepts (g.F.SelectionFunction.selects c.args.question.now) c.args.self.now c.in-Parent.parent c.children.result.now
    c.in-Parent.is (ap accepts (sym c.envelope.ensures) ∙ sym c.should_unpack_parent.ensures ∙ c.if-should_unpack_parent.true) c.children.ensures

pub returns-else-should_unpack_parent : goal.returns-else-should_unpack_parent
returns-else-should_unpack_parent g c =
    let accepts = g.F.SelectionFunction.accepts c.args.question.now in
    seen-parent (λ t. t.1) accepts (g.F.SelectionFunction.selects c.args.question.now) c.args.self.now c.in-Parent.parent _
    c.in-Parent.is (ap accepts (sym c.envelope.ensures) ∙ sym c.should_unpack_parent.ensures ∙ c.if-should_unpack_parent.false)
