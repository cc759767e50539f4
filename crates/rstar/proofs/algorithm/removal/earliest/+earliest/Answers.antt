use Rattle.std.proofs.Common.{List, Bor, None, sym, ◌∙◌, ap, subst}
use Rattle.std.proofs.lemmas.List.{take_all}
use Rattle.rstar.specs.inside.Earliest.{earliest, IsEarliestOf}
use Rattle.rstar.proofs.removing.Earliest.{earliest-leaf, earliest-shut, earliest-opened, one_more}
use Rattle.rstar.proofs.algorithm.removal.earliest.+earliest.Goals as goal

pub earliest_in-returns-in-Leaf : goal.earliest_in-returns-in-Leaf
earliest_in-returns-in-Leaf g t c =
    rw c.then_some.ensures (earliest-leaf (g.R.Question.accepts c.args.func.now) (g.R.Question.selects c.args.func.now) g.met.T.Ord.total (λ (b : Bor _). b.now) c.args.node.now _ c.should_unpack_leaf.result c.in-Leaf.is c.should_unpack_leaf.ensures)

pub earliest_in-returns-in_ok-earliest_below-in-Parent :
    goal.earliest_in-returns-in_ok-earliest_below-in-Parent
earliest_in-returns-in_ok-earliest_below-in-Parent g t c =
    sym (earliest-opened (g.R.Question.accepts c.args.func.now) (g.R.Question.selects c.args.func.now) g.met.T.Ord.total c.args.node.now c.in-Parent.parent c.as_slice.result.now _
    c.in-Parent.is (sym c.should_unpack_parent.ensures ∙ c.if-should_unpack_parent.true) c.as_slice.ensures.value c.in_ok-earliest_below-in-Parent.ensures.all)

pub earliest_in-returns-in_err-earliest_below-in-Parent :
    goal.earliest_in-returns-in_err-earliest_below-in-Parent
earliest_in-returns-in_err-earliest_below-in-Parent g t c =
    rw c.from_residual.ensures
    (sym (earliest-opened (g.R.Question.accepts c.args.func.now) (g.R.Question.selects c.args.func.now) g.met.T.Ord.total c.args.node.now c.in-Parent.parent c.as_slice.result.now None
    c.in-Parent.is (sym c.should_unpack_parent.ensures ∙ c.if-should_unpack_parent.true) c.as_slice.ensures.value (ap (earliest g.T.Ord.cmp) c.in_err-earliest_below-in-Parent.ensures)))

pub earliest_in-returns-in-Parent-2 : goal.earliest_in-returns-in-Parent-2
earliest_in-returns-in-Parent-2 g t c =
    sym (earliest-shut (g.R.Question.accepts c.args.func.now) (g.R.Question.selects c.args.func.now) g.met.T.Ord.total c.args.node.now c.in-Parent.parent c.in-Parent.is (sym c.should_unpack_parent.ensures ∙ c.if-should_unpack_parent.false))

pub earliest_below-loop-place-preserved : goal.earliest_below-loop-place-preserved
earliest_below-loop-place-preserved g t c =
    rw c.earlier-found.ensures
    (one_more (g.R.Question.accepts c.args.func.now) (g.R.Question.selects c.args.func.now) g.met.T.Ord.total c.args.nodes.now c.loop-place.place c.index-nodes-place.result c.loop-place.found c.earliest_in.result
    c.loop-place-test.true c.index-nodes-place.is c.loop-place.invariant c.earliest_in.ensures)

pub earliest_below-returns : goal.earliest_below-returns
earliest_below-returns g t c =
    subst (λ (nodes : List _). IsEarliestOf (g.R.Question.accepts c.args.func.now) (g.R.Question.selects c.args.func.now) g.T.Ord.cmp nodes c.loop-place.found)
    (take_all c.loop-place.place c.args.nodes.now c.loop-place-test.false) c.loop-place.invariant
