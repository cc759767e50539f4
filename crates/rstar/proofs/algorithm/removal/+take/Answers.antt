use Rattle.std.proofs.Common.{◌≡◌, ◌∙◌, ◌<◌, sym, refl, arith, ap, length, suc, ◌+◌, ◌-◌, get_or-set_same, Vec, ℕ, ◌≤◌, vec_len, rules}
use Rattle.std.proofs.lemmas.Bool.{true≢false}
use Rattle.rstar.specs.declared.node.RTreeNode.{Leaf}
use Rattle.rstar.specs.declared.node.RTreeNode.TheVariants.{outs-Leaf, outs-Parent}
use Rattle.rstar.specs.inside.Taking.{selects_in, is_selected_leaf, is_childless, lower_numbers}
use Rattle.rstar.proofs.removing.Parts.{same_read, same_item, lower_lent, lower_left}
use Rattle.rstar.proofs.removing.Scans.{begins, gives_leaf, gives_inside, gives_last, passes, finishes, some_one, entered, not_entered, kept_anew, kept_still, hull_set, if_none, none_gives}
use Rattle.rstar_base.specs.Hulls.{hull}
use Rattle.rstar.specs.Nodes.{node_box}
use Rattle.rstar.proofs.trees.ByChildren.{node_box-Parent}
use Rattle.rstar.proofs.algorithm.removal.+take.Goals as goal
use Rattle.rstar.proofs.algorithm.removal.+take.Goals.{take_among-then-is_childless, take_among-else-is_childless, take_below-else-is_some-via-then-is_some+else-changed, take_below-else-is_some-via-else-is_some}

-- the place of a child, by a lemma that reads no more than it needs
place : {n len end passed v w : ℕ} → len ≡ v → v ≡ w → end ≡ w → passed < end → v ≡ n → (1 ≤ len) × (passed ≤ len - 1) × (len - 1 - passed < v) × (n ≡ suc (len - 1 - passed + passed))
place e f h l k = (omega arith, omega arith, omega arith, omega arith)

pub take_among-loop-passed-init : goal.take_among-loop-passed-init
take_among-loop-passed-init g t c =
    let start = begins g.T.Cover.Merges.boxes g.T.Covered.object (g.R.Question.accepts c.args.func.now) (g.R.Question.selects c.args.func.now) c.args.children.now.items c.args.path.now c.args.rest.now c.first_number-passed.result c.first_number-passed.ensures in
    record { scanned = start.0; behind = start.1; same = refl }

pub take_among-returns-then-is_some : goal.take_among-returns-then-is_some
take_among-returns-then-is_some g t c =
    let i = c.len.result - 1 - c.loop-passed.passed in
    let at_i = place c.len.ensures (ap vec_len c.loop-passed.invariant.same) c.len-passed-end.ensures c.loop-passed-test.true c.loop-passed.children.ok.0 in
    let within : i < length c.loop-passed.children.items = omega (arith, at_i.3) in
    let written = c.index-then-is_some.ensures ∙ get_or-set_same _ _ _ _ within in
    let some = sym c.is_some.ensures ∙ c.if-is_some.true in
    record {
      takes = elim c.if-is_childless.branch [
        | take_among-then-is_childless w ↦
            rw (c.set_first-then-is_some.ensures, w.path-is, w.rest-is, w.children-is, w.drop_child.ensures.items)
            (gives_last g.T.Cover.Merges.boxes g.T.Covered.object (g.R.Question.accepts c.args.func.now) (g.R.Question.selects c.args.func.now) c.args.children.now.items c.args.path.now c.args.rest.now c.loop-passed.path c.loop-passed.rest c.loop-passed.passed c.loop-passed.invariant.scanned c.loop-passed.children.items (ap (λ (v : Vec _ _). v.items) c.loop-passed.invariant.same) i at_i.3 c.index_mut.result.now c.index_mut.ensures.value c.take_inside-taken.new.child c.take_inside-taken.new.path c.take_inside-taken.new.rest c.take_inside-taken.result c.take_inside-taken.ensures.takes c.take_inside-taken.auto.path
            w.clear_lower.new.path w.clear_lower.new.rest w.clear_lower.ensures
            (λ _. c.loop-passed.invariant.behind) some (sym (ap is_childless written) ∙ sym c.is_childless.ensures ∙ w.if-is_childless.true))
        | take_among-else-is_childless w ↦
            rw (c.set_first-then-is_some.ensures, w.path-is, w.rest-is, w.children-is)
            (gives_inside g.T.Cover.Merges.boxes g.T.Covered.object (g.R.Question.accepts c.args.func.now) (g.R.Question.selects c.args.func.now) c.args.children.now.items c.args.path.now c.args.rest.now c.loop-passed.path c.loop-passed.rest c.loop-passed.passed c.loop-passed.invariant.scanned c.loop-passed.children.items (ap (λ (v : Vec _ _). v.items) c.loop-passed.invariant.same) i at_i.3 c.index_mut.result.now c.index_mut.ensures.value c.take_inside-taken.new.child c.take_inside-taken.new.path c.take_inside-taken.new.rest c.take_inside-taken.result c.take_inside-taken.ensures.takes c.take_inside-taken.auto.path
            (λ _. c.loop-passed.invariant.behind) some (sym (ap is_childless written) ∙ sym c.is_childless.ensures ∙ w.if-is_childless.false))
      ];
      same = some_one _ c.take_inside-taken.result some;
      unchanged = elim c.if-is_childless.branch [
        | take_among-then-is_childless w ↦ rw w.changed-is (λ told. absurd (true≢false told))
        | take_among-else-is_childless w ↦ rw (w.changed-is, w.children-is) (λ told.
            hull_set g.T.Cover.Merges.boxes (node_box g.T.Covered.object.box_of) c.loop-passed.children.items i c.index_mut.result.now c.take_inside-taken.new.child within c.index_mut.ensures.value (c.take_inside-taken.ensures.unchanged told)
            ∙ ap (λ (v : Vec _ _). hull g.T.Cover.Merges.boxes (node_box g.T.Covered.object.box_of) v.items) c.loop-passed.invariant.same)
      ];
    }

pub take_among-loop-passed-preserved : goal.take_among-loop-passed-preserved
take_among-loop-passed-preserved g t c =
    let i = c.len.result - 1 - c.loop-passed.passed in
    let at_i = place c.len.ensures (ap vec_len c.loop-passed.invariant.same) c.len-passed-end.ensures c.loop-passed-test.true c.loop-passed.children.ok.0 in
    let within : i < length c.loop-passed.children.items = omega (arith, at_i.3) in
    let here = same_read c.loop-passed.children.items i c.index.result.now c.index_mut.result.now within c.index.ensures c.index_mut.ensures.value in
    let none = sym c.is_some.ensures ∙ c.if-is_some.false in
    let unchanged = same_item c.loop-passed.children i c.take_inside-taken.new.child _ (none_gives c.take_inside-taken.result none c.take_inside-taken.ensures.takes.kept ∙ c.index_mut.ensures.value) ∙ c.loop-passed.invariant.same in
    let passed = passes g.T.Cover.Merges.boxes g.T.Covered.object (g.R.Question.accepts c.args.func.now) (g.R.Question.selects c.args.func.now) c.args.children.now.items c.args.path.now c.args.rest.now c.loop-passed.path c.loop-passed.rest c.loop-passed.passed c.loop-passed.invariant.scanned c.loop-passed.children.items (ap (λ (v : Vec _ _). v.items) c.loop-passed.invariant.same) i at_i.3 c.index_mut.result.now c.index_mut.ensures.value c.take_inside-taken.new.child c.take_inside-taken.new.path c.take_inside-taken.new.rest c.take_inside-taken.result c.take_inside-taken.ensures.takes c.take_inside-taken.auto.path
    c.clear_lower-in-loop-passed.new.path c.clear_lower-in-loop-passed.new.rest c.clear_lower-in-loop-passed.ensures
    c.loop-passed.invariant.behind none (sym (ap (is_selected_leaf (g.R.Question.selects c.args.func.now)) here) ∙ sym c.is_selected_leaf.ensures ∙ c.if-is_selected_leaf.false) in
    record { scanned = passed.0; behind = passed.1; same = unchanged }

pub take_inside-returns : goal.take_inside-returns
take_inside-returns g t c =
    let below = rw (c.in-Parent.parent-is, lower_lent c.args.path.now c.min-lower.result c.min-lower.ensures) at c.take_below.ensures in
    let box = g.T.Covered.object.box_of in
    record {
      takes = rw (c.in-Parent.is, outs-Parent c.in-Parent.parent, lower_left c.args.path.now c.take_below.new.path c.min-lower.result c.min-lower.ensures c.take_below.auto.path) (entered g.T.Cover.Merges.boxes g.T.Covered.object (g.R.Question.accepts c.args.func.now) (g.R.Question.selects c.args.func.now) c.in-Parent.parent c.take_below.new.node (lower_numbers c.args.path.now) c.take_below.new.path c.args.rest.now c.take_below.new.rest c.take_below.result below.takes below.kept below.same);
      unchanged = rw (c.in-Parent.is, outs-Parent c.in-Parent.parent) (λ told. node_box-Parent box c.take_below.new.node ∙ below.unchanged told ∙ sym (node_box-Parent box c.in-Parent.parent));
    }

pub take_inside-returns-then-not-may_hold-clause-takes :
    goal.take_inside-returns-then-not-may_hold-clause-takes
take_inside-returns-then-not-may_hold-clause-takes g t c =
    let passed = rw c.in-Parent.parent-is at c.may_hold.ensures in
    rw (c.in-Parent.is, outs-Parent c.in-Parent.parent)
    (not_entered g.T.Cover.Merges.boxes g.T.Covered.object (g.R.Question.accepts c.args.func.now) (g.R.Question.selects c.args.func.now) g.met.T.Cover.Merges.merge_laws g.met.T.Covered.cover_law c.in-Parent.parent (lower_numbers c.args.path.now) c.args.rest.now (passed c.if-not-may_hold.true))

pub take_among-returns-then-is_selected_leaf : goal.take_among-returns-then-is_selected_leaf
take_among-returns-then-is_selected_leaf g t c =
    let i = c.len.result - 1 - c.loop-passed.passed in
    let at_i = place c.len.ensures (ap vec_len c.loop-passed.invariant.same) c.len-passed-end.ensures c.loop-passed-test.true c.loop-passed.children.ok.0 in
    let within : i < length c.loop-passed.children.items = omega (arith, at_i.3) in
    let leaf = rw (sym c.element_of.ensures) at c.remove.ensures.value in
    let here = same_read c.loop-passed.children.items i c.index.result.now (Leaf c.element_of.result) within c.index.ensures leaf in
    let chosen = ap (is_selected_leaf (g.R.Question.selects c.args.func.now)) (sym here) in
    record {
      takes = rw (c.set_first.ensures, c.remove.ensures.items)
          (gives_leaf g.T.Cover.Merges.boxes g.T.Covered.object (g.R.Question.accepts c.args.func.now) (g.R.Question.selects c.args.func.now) c.args.children.now.items c.args.path.now c.args.rest.now c.loop-passed.path c.loop-passed.rest c.loop-passed.passed c.loop-passed.invariant.scanned c.loop-passed.children.items (ap (λ (v : Vec _ _). v.items) c.loop-passed.invariant.same) i at_i.3 c.element_of.result leaf
          (λ _. c.loop-passed.invariant.behind) (sym (ap (selects_in (g.R.Question.selects c.args.func.now)) (outs-Leaf _)) ∙ chosen ∙ sym c.is_selected_leaf.ensures ∙ c.if-is_selected_leaf.true));
      same = tt;
      unchanged = λ told. absurd (true≢false told);
    }

pub take_among-returns : goal.take_among-returns
take_among-returns g t c = record {
  takes = rw (c.set_first-2.ensures, c.loop-passed.invariant.same)
      (finishes g.T.Cover.Merges.boxes g.T.Covered.object (g.R.Question.accepts c.args.func.now) (g.R.Question.selects c.args.func.now) c.args.children.now.items c.args.path.now c.args.rest.now c.loop-passed.path c.loop-passed.rest c.loop-passed.passed c.loop-passed.invariant.scanned
      (omega (arith, c.args.children.now.ok.0)) c.len-2.result (c.len-2.ensures ∙ ap vec_len c.loop-passed.invariant.same ∙ c.args.children.now.ok.0) c.loop-passed.invariant.behind);
  same = c.loop-passed.invariant.same;
  unchanged = λ told. ap (λ (v : Vec _ _). hull g.T.Cover.Merges.boxes (node_box g.T.Covered.object.box_of) v.items) c.loop-passed.invariant.same;
}

pub take_below-returns-then-changed : goal.take_below-returns-then-changed
take_below-returns-then-changed g t c =
    let takes = c.take_among-taken.ensures.takes in
    let merge = rw c.deref.ensures.value at c.merge_along-merged.ensures in
    record {
      takes =
          let still = λ (none : length c.args.path.now ≡ 0). merge.still (c.take_among-taken.auto.path ∙ none) ∙ takes.still none in
          search (takes.whole, takes.past, takes.rests, merge.rests);
      kept = λ w h kept below at. kept_anew g.met.T.Cover.Merges.merge_laws g.met.T.Covered.cover_law w h c.args.node.now _ kept (takes.whole w h below at) takes.shorter (merge.merged (takes.rests w h below at));
      same = some_one _ c.take_among-taken.result (sym c.is_some.ensures ∙ c.if-is_some.true);
      unchanged = search rules;
    }

pub take_below-returns-else-is_some : goal.take_below-returns-else-is_some
take_below-returns-else-is_some g t c =
    let takes = c.take_among-taken.ensures.takes in let same = c.take_among-taken.ensures.same in
    let box = node_box g.T.Covered.object.box_of in
    let hulls : hull g.T.Cover.Merges.boxes box c.take_among-taken.new.children.items ≡ hull g.T.Cover.Merges.boxes box c.args.node.now.children.items = elim c.else-is_some.branch [
      | take_below-else-is_some-via-then-is_some+else-changed w ↦ c.take_among-taken.ensures.unchanged w.if-changed.false
      | take_below-else-is_some-via-else-is_some w ↦ ap (λ (v : Vec _ _). hull g.T.Cover.Merges.boxes box v.items) (none_gives c.take_among-taken.result (sym c.is_some.ensures ∙ w.if-is_some.false) same)
    ] in
    record {
      takes = takes;
      kept = λ w h kept below at. kept_still g.met.T.Cover.Merges.merge_laws g.met.T.Covered.cover_law w h c.args.node.now _ kept below (takes.whole w h below at) takes.shorter refl hulls;
      same = if_none c.take_among-taken.result same (λ e. ap (λ v. record c.args.node.now { children = v }) e);
      unchanged = λ told. refl;
    }
