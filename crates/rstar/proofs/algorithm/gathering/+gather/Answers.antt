use Rattle.std.proofs.Common.{◌≡◌, ◌∙◌, ◌<◌, ◌≤◌, ◌-◌, ℕ, sym, refl, arith, ap, suc, set}
use Rattle.std.proofs.lemmas.List.{set-get_or}
use Rattle.rstar.specs.declared.node.RTreeNode.{Leaf, Parent}
use Rattle.rstar.specs.declared.node.RTreeNode.TheVariants.{outs-Leaf, outs-Parent}
use Rattle.rstar.specs.inside.Taking.{selects_in, is_selected_leaf}
use Rattle.rstar.proofs.removing.Gathered.{gathering_begins, gathering_ends, takes_leaf, stays, goes_inside, drops_childless, not_opened, same_elements, kept_alike, swapped_out}
use Rattle.rstar.proofs.removing.Parts.{same_read}
use Rattle.rstar.proofs.removing.Scans.{kept_anew}
use Rattle.rstar.proofs.trees.ByChildren.{elements-Leaf}
use Rattle.rstar.proofs.algorithm.gathering.+gather.Goals as goal

-- ---- the place of a child, and room, by lemmas that read no more than they need

place : {i n : ℕ} → 0 < i → i ≤ n → (i ≡ suc (i - 1)) × (i - 1 < n)
place some within = (omega arith, omega arith)

no_room : {P : Type 0} {len most : ℕ} → most ≤ len → len < most → P
no_room full less = absurd (omega arith)

pub gather_among-loop-i-init : goal.gather_among-loop-i-init
gather_among-loop-i-init g t c = record {
  gathering = gathering_begins g.T.Cover.Merges.boxes g.T.Covered.object (g.R.Question.accepts c.args.func.now) (g.R.Question.selects c.args.func.now) c.args.most c.args.children.now.items c.args.taken.now.items c.len-i.result (c.len-i.ensures ∙ c.args.children.now.ok.0);
  capacity = refl;
}

pub gather_among-returns-then-len-most-clause-gathers :
    goal.gather_among-returns-then-len-most-clause-gathers
gather_among-returns-then-len-most-clause-gathers g t c =
    gathering_ends g.T.Cover.Merges.boxes g.T.Covered.object (g.R.Question.accepts c.args.func.now) (g.R.Question.selects c.args.func.now) c.args.most c.args.children.now.items c.args.taken.now.items c.loop-i.children.items c.loop-i.taken.items c.loop-i.i c.loop-i.invariant.gathering
    (no_room (rw (c.len.ensures ∙ c.loop-i.taken.ok.0) at c.if-len-most.true))

pub gather_among-returns-clause-gathers : goal.gather_among-returns-clause-gathers
gather_among-returns-clause-gathers g t c =
    let ended = c.loop-i-test.false in
    gathering_ends g.T.Cover.Merges.boxes g.T.Covered.object (g.R.Question.accepts c.args.func.now) (g.R.Question.selects c.args.func.now) c.args.most c.args.children.now.items c.args.taken.now.items c.loop-i.children.items c.loop-i.taken.items c.loop-i.i c.loop-i.invariant.gathering (λ less. omega (arith, ended))

pub gather_among-loop-i-preserved-then-should_unpack_leaf :
    goal.gather_among-loop-i-preserved-then-should_unpack_leaf
gather_among-loop-i-preserved-then-should_unpack_leaf g t c =
    let selects = g.R.Question.selects c.args.func.now in let ns = c.loop-i.children.items in let i = c.loop-i.i - 1 in
    let at_i = place c.loop-i-test.true c.loop-i.invariant.gathering.within in
    let here = rw c.in-Leaf.is at c.index_mut.ensures.value in
    let still = ap (set ns i) here ∙ set-get_or ns i (Leaf c.in-Leaf.t) in
    let removed = rw still at (rw (c.in-Leaf.is, outs-Leaf c.in-Leaf.t) at c.swap_remove.ensures) in let leaf = rw (sym c.element_of.ensures) at removed.value in
    let same = same_read ns i (Leaf c.in-Leaf.t) (Leaf c.element_of.result) at_i.1 here leaf in
    let chosen = sym (ap (selects_in selects) (outs-Leaf _)) ∙ ap (is_selected_leaf selects) (sym same) ∙ ap (selects_in selects) (outs-Leaf _) ∙ sym (rw c.in-Leaf.t-is at c.should_unpack_leaf.ensures) ∙ c.if-should_unpack_leaf.true in
    record {
      gathering = rw c.push_reserved.ensures.items (takes_leaf g.T.Cover.Merges.boxes g.T.Covered.object (g.R.Question.accepts c.args.func.now) (g.R.Question.selects c.args.func.now) c.args.most c.args.children.now.items c.args.taken.now.items c.loop-i.children.items c.loop-i.taken.items c.loop-i.i (c.loop-i.i - 1) c.loop-i.invariant.gathering at_i.0 c.element_of.result c.swap_remove.new.self.items leaf chosen
          (rw (c.len.ensures ∙ c.loop-i.taken.ok.0) at c.if-len-most.false)
          (swapped_out ns c.swap_remove.new.self.items i _ _ c.swap_remove.result c.loop-i.children.ok.0 c.swap_remove.new.self.ok.0 (rw (sym c.loop-i.children.ok.0) at at_i.1) removed.value removed.items removed.len removed.by_index));
      capacity = c.push_reserved.ensures.capacity ∙ c.loop-i.invariant.capacity;
    }

pub gather_among-loop-i-preserved-else-should_unpack_leaf : goal.gather_among-loop-i-preserved-else-should_unpack_leaf
gather_among-loop-i-preserved-else-should_unpack_leaf g t c =
    let chosen = rw c.in-Leaf.t-is at c.should_unpack_leaf.ensures in
    let at_i = place c.loop-i-test.true c.loop-i.invariant.gathering.within in
    record {
      gathering = rw (c.in-Leaf.is, outs-Leaf c.in-Leaf.t) (stays g.T.Cover.Merges.boxes g.T.Covered.object (g.R.Question.accepts c.args.func.now) (g.R.Question.selects c.args.func.now) c.args.most c.args.children.now.items c.args.taken.now.items c.loop-i.children.items c.loop-i.taken.items c.loop-i.i (c.loop-i.i - 1) c.loop-i.invariant.gathering at_i.0 (Leaf c.in-Leaf.t) (rw c.in-Leaf.is at c.index_mut.ensures.value)
          (λ lawful w h k. rw (elements-Leaf _ _ c.in-Leaf.t) (sym chosen ∙ c.if-should_unpack_leaf.false, tt)));
      capacity = c.loop-i.invariant.capacity;
    }

pub gather_among-loop-i-preserved-then-is_empty : goal.gather_among-loop-i-preserved-then-is_empty
gather_among-loop-i-preserved-then-is_empty g t c =
    let at_i = place c.loop-i-test.true c.loop-i.invariant.gathering.within in
    let p = c.in-Parent.parent in let q = c.gather_below.new.node in let below = rw c.in-Parent.parent-is at c.gather_below.ensures in
    record {
      gathering = drops_childless g.T.Cover.Merges.boxes g.T.Covered.object (g.R.Question.accepts c.args.func.now) (g.R.Question.selects c.args.func.now) c.args.most c.args.children.now.items c.args.taken.now.items c.loop-i.children.items c.loop-i.taken.items c.loop-i.i (c.loop-i.i - 1) c.loop-i.invariant.gathering at_i.0 p q c.gather_below.new.taken.items (rw c.in-Parent.is at c.index_mut.ensures.value) below.gathers
          (sym c.is_empty.ensures ∙ c.if-is_empty.true) c.swap_out.new.children.items (rw (c.in-Parent.is, outs-Parent p) at c.swap_out.ensures.out);
      capacity = below.capacity ∙ c.loop-i.invariant.capacity;
    }

pub gather_among-loop-i-preserved-else-is_empty : goal.gather_among-loop-i-preserved-else-is_empty
gather_among-loop-i-preserved-else-is_empty g t c =
    let at_i = place c.loop-i-test.true c.loop-i.invariant.gathering.within in
    let p = c.in-Parent.parent in let q = c.gather_below.new.node in let below = rw c.in-Parent.parent-is at c.gather_below.ensures in
    record {
      gathering = rw (c.in-Parent.is, outs-Parent p) (goes_inside g.T.Cover.Merges.boxes g.T.Covered.object (g.R.Question.accepts c.args.func.now) (g.R.Question.selects c.args.func.now) c.args.most c.args.children.now.items c.args.taken.now.items c.loop-i.children.items c.loop-i.taken.items c.loop-i.i (c.loop-i.i - 1) c.loop-i.invariant.gathering at_i.0 p q c.gather_below.new.taken.items (rw c.in-Parent.is at c.index_mut.ensures.value) below.gathers
          below.kept (sym c.is_empty.ensures ∙ c.if-is_empty.false));
      capacity = below.capacity ∙ c.loop-i.invariant.capacity;
    }

pub gather_among-loop-i-preserved : goal.gather_among-loop-i-preserved
gather_among-loop-i-preserved g t c =
    let at_i = place c.loop-i-test.true c.loop-i.invariant.gathering.within in let p = c.in-Parent.parent in
    let refused = rw c.in-Parent.parent-is at c.should_unpack_parent.ensures in
    record {
      gathering = rw (c.in-Parent.is, outs-Parent p) (stays g.T.Cover.Merges.boxes g.T.Covered.object (g.R.Question.accepts c.args.func.now) (g.R.Question.selects c.args.func.now) c.args.most c.args.children.now.items c.args.taken.now.items c.loop-i.children.items c.loop-i.taken.items c.loop-i.i (c.loop-i.i - 1) c.loop-i.invariant.gathering at_i.0 (Parent p) (rw c.in-Parent.is at c.index_mut.ensures.value)
          (not_opened g.T.Cover.Merges.boxes g.T.Covered.object (g.R.Question.accepts c.args.func.now) (g.R.Question.selects c.args.func.now) c.args.most g.met.T.Cover.Merges.merge_laws g.met.T.Covered.cover_law p (sym refused ∙ c.if-should_unpack_parent.false)));
      capacity = c.loop-i.invariant.capacity;
    }

pub gather_below-returns-then-len-before-clause-kept : goal.gather_below-returns-then-len-before-clause-kept
gather_below-returns-then-len-before-clause-kept g t c w h kept below =
    let gathers = c.gather_among.ensures.gathers in
    kept_anew g.met.T.Cover.Merges.merge_laws g.met.T.Covered.cover_law w h c.args.node.now _ kept (gathers.kept w h below) gathers.shorter
    (rw c.deref.ensures.value at c.envelope_for_children.ensures.hull)

pub gather_below-returns-else-len-before-clause-kept : goal.gather_below-returns-else-len-before-clause-kept
gather_below-returns-else-len-before-clause-kept g t c w h kept below =
    let gathers = c.gather_among.ensures.gathers in
    kept_alike g.met.T.Cover.Merges.merge_laws g.met.T.Covered.cover_law w h c.args.node.now _ kept below (gathers.kept w h below) gathers.shorter refl
    (same_elements (g.R.Question.selects c.args.func.now) c.args.most _ _ _ _ gathers.moved
    (rw (c.len.ensures ∙ c.gather_among.new.taken.ok.0, c.len-before.ensures ∙ c.args.taken.now.ok.0) at c.if-len-before.false))
