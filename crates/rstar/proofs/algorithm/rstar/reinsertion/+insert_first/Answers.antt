use Rattle.std.proofs.Common.{◌≡◌, ◌<◌, ◌≤◌, ◌+◌, ℕ, refl, arith, rules, append-nil, length, set, vec_len, None}
use Rattle.std.proofs.lemmas.List.{nil_from_length}
use Rattle.rstar.specs.declared.node.RTreeNode.{Parent}
use Rattle.rstar.specs.declared.node.RTreeNode.TheVariants.{outs-Parent}
use Rattle.rstar.specs.Nodes.{IsElement}
use Rattle.rstar.specs.inside.ParentBounds.{IsKeptInner, has_room}
use Rattle.rstar.proofs.inserting.Insertion.{all_elements-append, leaf_in, child_in, child_takes, covers, whole_in, made_anew, parted, is_parent_at, sized_whole, room_one, none_roomy, child_roomy}
use Rattle.rstar.proofs.algorithm.rstar.reinsertion.+insert_first.Goals as goal

-- ---- numbers of lists, by lemmas that read no more than they need

room_above : (handed has before after a b : ℕ) → after + a ≡ before + b + 0 → a + 1 ≤ b + handed → has + before + 1 ≤ has + after + handed
room_above handed has before after a b lists h = omega arith

parents_above : (has before after a b : ℕ) → after + a ≡ before + b + 0 → b ≡ a → has + after ≡ has + before
parents_above has before after a b lists h = omega arith

-- ---- above leaves

pub add_leaf-requires-clause-covered : goal.add_leaf-requires-clause-covered
add_leaf-requires-clause-covered g t c =
    let taken = leaf_in {min = g.Params.RTreeParams.MIN_SIZE} {max = g.Params.RTreeParams.MAX_SIZE} c.requires.place c.if-levels-eq0.true c.envelope-envelope.ensures.own in
    (covers c.requires.place g.met.T.Cover.Merges.merge_laws g.met.T.Covered.cover_law _ c.envelope-envelope.ensures.own c.merge.ensures.merged c.envelope-envelope.ensures.value (rw append-nil at taken.bag) taken.kept).1

pub returns-then-levels-eq0 : goal.returns-then-levels-eq0
returns-then-levels-eq0 g t c =
    let old = c.args.node.now.children.items in
    let low = c.if-levels-eq0.true in
    let new = c.add_leaf.new.node in
    let out = c.add_leaf.new.handed.items in
    let ends = c.add_leaf.ensures in
    let taken = leaf_in {min = g.Params.RTreeParams.MIN_SIZE} {max = g.Params.RTreeParams.MAX_SIZE} c.requires.place low c.envelope-envelope.ensures.own in
    let parts = parted g.met.T.Cover.Merges.merge_laws g.met.T.Covered.cover_law c.args.widest c.args.levels c.args.t old _ out new (rw append-nil at taken.bag) taken.kept ends.same ends.fit in
    record {
      tree = record {
        bag = rw (append-nil new.children.items, ← all_elements-append new.children.items out) parts.0;
        first = parts.1;
        second_kept = tt;
        sized = λ sized. sized_whole g.Params.RTreeParams.MIN_SIZE g.Params.RTreeParams.MAX_SIZE c.args.levels (vec_len c.args.node.now.children) _ out new (taken.sized sized.0) ends.same (ends.most sized.1) ends.least;
      };
      leaves = rw low at parts.2;
      count = ends.count;
      overfull = ends.overfull;
      room = omega (arith, none_roomy c.args.widest c.args.levels old low, none_roomy c.args.widest c.args.levels new.children.items low, ends.room);
      parents = omega (arith, none_roomy 0 c.args.levels old low, none_roomy 0 c.args.levels new.children.items low, room_one 0 c.args.node.now.children (omega arith), room_one 0 new.children (omega arith));
    }

-- ---- in a child

pub unreachable-requires : goal.unreachable-requires
unreachable-requires g t c =
    let p = is_parent_at (IsKeptInner g.T.Cover.Merges.boxes g.T.Covered.object c.args.widest) (IsElement g.T.Cover.Merges.boxes g.T.Covered.object) c.args.levels c.args.node.now.children.items c.choose_subtree-index.result c.index_mut.result.now
    (omega (arith, c.if-levels-eq0.false)) (rw c.deref.ensures.value at c.choose_subtree-index.ensures) c.index_mut.ensures.value c.requires.place.below in
    c.in_default.not-Parent p.0 p.1

pub insert_first-requires : goal.insert_first-requires
insert_first-requires g t c κs within =
    let place = child_takes c.requires.place c.choose_subtree-index.result c.in-Parent.child
    (omega (arith, c.if-levels-eq0.false)) (rw c.deref.ensures.value at c.choose_subtree-index.ensures) (rw c.in-Parent.is at c.index_mut.ensures.value) in
    rw c.in-Parent.child-is (omega arith, (within.0, (within.1.0, (within.1.1, (place, c.requires.lists)))))

pub returns-then-not-is_empty : goal.returns-then-not-is_empty
returns-then-not-is_empty g t c =
    let old = c.args.node.now.children.items in
    let i = c.choose_subtree-index.result in
    let child = c.in-Parent.child in
    let new = c.insert_first.new.node in
    let above : 0 < c.args.levels = omega (arith, c.if-levels-eq0.false) in
    let here : i < length old = rw c.deref.ensures.value at c.choose_subtree-index.ensures in
    let is = rw c.in-Parent.is at c.index_mut.ensures.value in
    let ends = rw c.in-Parent.child-is at c.insert_first.ensures in
    let taken = rw (append-nil (set old i (Parent new))) at (child_in c.requires.place i child new None above here is ends.tree) in
    let lists = λ (count : ℕ). rw append-nil at (child_roomy count c.args.levels old i child new None above here is) in
    let merged = simp (c.in-Parent.is, outs-Parent) at (rw c.deref-then-not-is_empty.ensures.value at c.envelope_for_children.ensures.hull) in
    let tight = made_anew g.met.T.Cover.Merges.merge_laws g.met.T.Covered.cover_law c.args.widest c.args.levels (set old i (Parent new)) c.envelope_for_children.result taken.kept merged in
    record {
      tree = simp (c.in-Parent.is, outs-Parent) (whole_in c.requires.place g.met.T.Cover.Merges.merge_laws g.met.T.Covered.cover_law above taken refl refl tight);
      leaves = ends.leaves;
      count = ends.count;
      overfull = ends.overfull;
      room = simp (c.in-Parent.is, outs-Parent) (room_above (has_room c.args.widest c.insert_first.new.handed) _ _ _ _ _ (lists c.args.widest) ends.room);
      parents = simp (c.in-Parent.is, outs-Parent) (parents_above _ _ _ _ _ (lists 0) ends.parents);
    }

pub returns : goal.returns
returns g t c =
    let old = c.args.node.now.children.items in
    let i = c.choose_subtree-index.result in
    let child = c.in-Parent.child in
    let new = c.insert_first.new.node in
    let above : 0 < c.args.levels = omega (arith, c.if-levels-eq0.false) in
    let here : i < length old = rw c.deref.ensures.value at c.choose_subtree-index.ensures in
    let is = rw c.in-Parent.is at c.index_mut.ensures.value in
    let ends = rw c.in-Parent.child-is at c.insert_first.ensures in
    let taken = rw (append-nil (set old i (Parent new))) at (child_in c.requires.place i child new None above here is ends.tree) in
    let lists = λ (count : ℕ). rw append-nil at (child_roomy count c.args.levels old i child new None above here is) in
    let zero : vec_len c.insert_first.new.handed ≡ 0 = search rules in
    let none = nil_from_length c.insert_first.new.handed.items (omega (arith, zero, c.insert_first.new.handed.ok.0)) in
    let bag = rw (none, append-nil) at taken.bag in
    let tight = (covers c.requires.place g.met.T.Cover.Merges.merge_laws g.met.T.Covered.cover_law (set old i (Parent new)) c.envelope-envelope.ensures.own c.merge.ensures.merged c.envelope-envelope.ensures.value bag taken.kept).0 in
    record {
      tree = simp (c.in-Parent.is, outs-Parent) (whole_in c.requires.place g.met.T.Cover.Merges.merge_laws g.met.T.Covered.cover_law above taken refl refl tight);
      leaves = ends.leaves;
      count = ends.count;
      overfull = ends.overfull;
      room = simp (c.in-Parent.is, outs-Parent) (room_above (has_room c.args.widest c.insert_first.new.handed) _ _ _ _ _ (lists c.args.widest) ends.room);
      parents = simp (c.in-Parent.is, outs-Parent) (parents_above _ _ _ _ _ (lists 0) ends.parents);
    }
