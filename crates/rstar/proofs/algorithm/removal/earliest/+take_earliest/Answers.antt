use Rattle.std.proofs.Common.{true, sym, ◌∙◌, ap, refl, get_or, get_or-set_same, set, rules}
use Rattle.std.proofs.lemmas.List.{get_or_read, set-get_or}
use Rattle.rstar.specs.declared.node.RTreeNode.{Leaf, Parent}
use Rattle.rstar.specs.declared.node.RTreeNode.TheVariants.{outs-Parent}
use Rattle.rstar.specs.Nodes.{all_given, node_box}
use Rattle.rstar.specs.inside.Taking.{is_childless}
use Rattle.rstar.proofs.removing.Earliest.{earliest-leaf, earliest-there, leaf_selected, taken_inside, takes_nothing}
use Rattle.rstar.proofs.trees.ByChildren.{node_box-Parent}
use Rattle.rstar.proofs.removing.Scans.{kept_anew, kept_still, hull_set, some_one, takes_leaf, takes_below, takes_last}
use Rattle.rstar.proofs.algorithm.removal.earliest.+take_earliest.Goals as goal

pub take_at-returns-in_default : goal.take_at-returns-in_default
take_at-returns-in_default g t c =
    let accepts = g.R.Question.accepts c.args.func.now in let selects = g.R.Question.selects c.args.func.now in
    let still = ap (set c.args.children.now.items c.args.place) c.index_mut.ensures.value ∙ set-get_or c.args.children.now.items c.args.place c.index_mut.result.now in
    let removed = rw still at c.remove.ensures in let here = rw (sym c.element_of.ensures) at removed.value in
    let selected = leaf_selected accepts selects _ c.element_of.result (sym here) (c.requires.some (Leaf c.element_of.result)) in
    record {
      takes = rw removed.items (takes_leaf g.T.Cover.Merges.boxes g.T.Covered.object accepts selects c.args.children.now.items c.args.place c.requires.within c.element_of.result here selected);
      first = λ d. earliest-leaf accepts selects g.met.T.Ord.total (λ u. u) (get_or c.args.children.now.items c.args.place d) c.element_of.result true (sym (get_or_read c.args.children.now.items c.args.place (Leaf c.element_of.result) c.requires.within here d)) (sym selected);
      unchanged = search rules;
    }

pub take_at-returns-then-is_childless : goal.take_at-returns-then-is_childless
take_at-returns-then-is_childless g t c =
    let accepts = g.R.Question.accepts c.args.func.now in let selects = g.R.Question.selects c.args.func.now in
    let p = c.in-Parent.parent in let q = c.take_earliest-taken.new.node in let here = rw c.in-Parent.is at c.index_mut.ensures.value in
    let taken = rw c.in-Parent.parent-is at c.take_earliest-taken.ensures in
    let inside = taken_inside accepts selects g.T.Ord.cmp c.args.children.now.items c.args.place p q c.take_earliest-taken.result c.requires here taken.below taken.first in
    let last = sym (ap is_childless (c.index.ensures ∙ get_or-set_same _ _ _ _ c.requires.within)) ∙ sym c.is_childless.ensures ∙ c.if-is_childless.true in
    record {
      takes = rw (c.drop_child.ensures.items, c.in-Parent.is, outs-Parent p)
          (takes_last g.T.Cover.Merges.boxes g.T.Covered.object accepts selects c.args.children.now.items c.args.place c.requires.within (Parent p) (Parent q) c.take_earliest-taken.result here inside.0 inside.1 (rw (c.in-Parent.is, outs-Parent p) at last));
      first = inside.2;
      unchanged = search rules;
    }

pub take_at-returns-else-is_childless : goal.take_at-returns-else-is_childless
take_at-returns-else-is_childless g t c =
    let accepts = g.R.Question.accepts c.args.func.now in let selects = g.R.Question.selects c.args.func.now in let box = g.T.Covered.object.box_of in
    let p = c.in-Parent.parent in let q = c.take_earliest-taken.new.node in let here = rw c.in-Parent.is at c.index_mut.ensures.value in
    let taken = rw c.in-Parent.parent-is at c.take_earliest-taken.ensures in
    let inside = taken_inside accepts selects g.T.Ord.cmp c.args.children.now.items c.args.place p q c.take_earliest-taken.result c.requires here taken.below taken.first in
    let has = sym (ap is_childless (c.index.ensures ∙ get_or-set_same _ _ _ _ c.requires.within)) ∙ sym c.is_childless.ensures ∙ c.if-is_childless.false in
    record {
      takes = rw (c.in-Parent.is, outs-Parent p)
          (takes_below g.T.Cover.Merges.boxes g.T.Covered.object accepts selects c.args.children.now.items c.args.place c.requires.within (Parent p) (Parent q) c.take_earliest-taken.result here inside.0 inside.1 (rw (c.in-Parent.is, outs-Parent p) at has));
      first = inside.2;
      unchanged = rw (c.in-Parent.is, outs-Parent p) (λ told. hull_set g.T.Cover.Merges.boxes (node_box box) c.args.children.now.items c.args.place (Parent p) (Parent q) c.requires.within here
          (node_box-Parent box q ∙ taken.below.unchanged told ∙ sym (node_box-Parent box p)));
    }

pub take_earliest-returns-in_err-place-clause-below : goal.take_earliest-returns-in_err-place-clause-below
take_earliest-returns-in_err-place-clause-below g t c =
    let accepts = g.R.Question.accepts c.args.func.now in let selects = g.R.Question.selects c.args.func.now in
    rw c.from_residual.ensures
    (assumption (takes_nothing accepts selects g.met.T.Cover.Merges.merge_laws g.met.T.Covered.cover_law c.args.node.now.children.items
    (sym (ap (all_given accepts selects) c.as_slice.ensures.value) ∙ c.in_err-place.ensures)))

pub take_earliest-returns-then-changed : goal.take_earliest-returns-then-changed
take_earliest-returns-then-changed g t c =
    let takes = c.take_at-taken.ensures.takes in
    let made = rw c.deref.ensures.value at c.envelope_for_children-merged.ensures.hull in
    let there = earliest-there (g.R.Question.accepts c.args.func.now) (g.R.Question.selects c.args.func.now) g.met.T.Ord.total c.args.node.now.children.items c.as_slice.result.now c.in_ok-place.field-0.0 c.in_ok-place.field-0.1.now c.take_at-taken.result (Parent c.args.node.now)
    c.as_slice.ensures.value c.in_ok-place.ensures (c.take_at-taken.ensures.first (Parent c.args.node.now)) in
    record {
      below = record {
        takes = takes;
        kept = λ w h kept below at. kept_anew g.met.T.Cover.Merges.merge_laws g.met.T.Covered.cover_law w h c.args.node.now _ kept (takes.whole w h below tt) takes.shorter made;
        same = some_one _ c.take_at-taken.result there.1;
        unchanged = search rules;
      };
      first = there.0;
    }

pub take_earliest-returns-else-changed : goal.take_earliest-returns-else-changed
take_earliest-returns-else-changed g t c =
    let takes = c.take_at-taken.ensures.takes in
    let there = earliest-there (g.R.Question.accepts c.args.func.now) (g.R.Question.selects c.args.func.now) g.met.T.Ord.total c.args.node.now.children.items c.as_slice.result.now c.in_ok-place.field-0.0 c.in_ok-place.field-0.1.now c.take_at-taken.result (Parent c.args.node.now)
    c.as_slice.ensures.value c.in_ok-place.ensures (c.take_at-taken.ensures.first (Parent c.args.node.now)) in
    record {
      below = record {
        takes = takes;
        kept = λ w h kept below at. kept_still g.met.T.Cover.Merges.merge_laws g.met.T.Covered.cover_law w h c.args.node.now _ kept below (takes.whole w h below tt) takes.shorter refl (c.take_at-taken.ensures.unchanged c.if-changed.false);
        same = some_one _ c.take_at-taken.result there.1;
        unchanged = λ _. refl;
      };
      first = there.0;
    }
