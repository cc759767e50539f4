use Rattle.std.proofs.Common.{◌++◌, ◌∷◌, [], ◌<◌, refl, arith, append-nil, length, set, Some, None}
use Rattle.std.specs.Vec.{with_item}
use Rattle.std.proofs.lemmas.List.{length-set}
use Rattle.rstar.specs.declared.node.RTreeNode.{Leaf, Parent}
use Rattle.rstar.specs.declared.node.RTreeNode.TheVariants.{outs-Parent}
use Rattle.rstar.specs.Nodes.{IsElement}
use Rattle.rstar.specs.inside.ParentBounds.{IsKeptInner}
use Rattle.rstar.proofs.inserting.Insertion.{leaf_in, child_in, child_takes, covers, cut_in, whole_in, is_parent_at, room_same, none_roomy, child_roomy, parts_roomy, ready_for, ready_again, spends_both, spends_as}
use Rattle.rstar.proofs.algorithm.rstar.insertion.+insert_below.Goals as goal

-- ---- above leaves

pub add_child-requires : goal.add_child-requires
add_child-requires g t c =
    let place = c.requires.place in
    let taken = leaf_in {min = g.Params.RTreeParams.MIN_SIZE} {max = g.Params.RTreeParams.MAX_SIZE} place c.if-levels-eq0.true c.envelope-envelope.ensures.own in
    record {
      covered = (covers place g.met.T.Cover.Merges.merge_laws g.met.T.Covered.cover_law _ c.envelope-envelope.ensures.own c.merge.ensures.merged c.envelope-envelope.ensures.value (rw append-nil at taken.bag) taken.kept).1;
      narrow = place.node.narrow;
      ready = ready_for c.requires.ready (omega (arith, c.requires.ready.enough));
    }

pub returns-then-levels-eq0 : goal.returns-then-levels-eq0
returns-then-levels-eq0 g t c =
    let old = c.args.node.now.children.items in
    let all = old ++ Leaf c.args.t ∷ [] in
    let low = c.if-levels-eq0.true in
    let adds = c.add_child.ensures.adds in
    record {
      tree = cut_in c.requires.place g.met.T.Cover.Merges.merge_laws g.met.T.Covered.cover_law g.Params.RTreeParams.min_positive (leaf_in c.requires.place low c.envelope-envelope.ensures.own) adds refl refl;
      spends = spends_as c.add_child.ensures.spends (λ n few.
          omega (arith, parts_roomy n c.args.reserve.now.widest c.args.levels all c.add_child.new.node c.add_child.result few adds.same adds.second_room, none_roomy n c.args.levels old low, none_roomy n c.args.levels all low));
      used = omega (arith, c.add_child.ensures.used);
    }

-- ---- in a child

pub unreachable-requires : goal.unreachable-requires
unreachable-requires g t c =
    let p = is_parent_at (IsKeptInner g.T.Cover.Merges.boxes g.T.Covered.object c.args.reserve.now.widest) (IsElement g.T.Cover.Merges.boxes g.T.Covered.object) c.args.levels c.args.node.now.children.items c.choose_subtree-index.result c.index_mut.result.now
    (omega (arith, c.if-levels-eq0.false)) (rw c.deref.ensures.value at c.choose_subtree-index.ensures) c.index_mut.ensures.value c.requires.place.below in
    c.in_default.not-Parent p.0 p.1

pub insert_below-requires : goal.insert_below-requires
insert_below-requires g t c κs within =
    let place = child_takes c.requires.place c.choose_subtree-index.result c.in-Parent.child
    (omega (arith, c.if-levels-eq0.false)) (rw c.deref.ensures.value at c.choose_subtree-index.ensures) (rw c.in-Parent.is at c.index_mut.ensures.value) in
    rw c.in-Parent.child-is (omega arith, (within.0, (within.1.0, (within.1.1, (place, ready_for c.requires.ready (omega (arith, c.requires.ready.enough)))))))

pub returns-in-None : goal.returns-in-None
returns-in-None g t c =
    let old = c.args.node.now.children.items in
    let i = c.choose_subtree-index.result in
    let child = c.in-Parent.child in
    let new = c.insert_below.new.node in
    let above : 0 < c.args.levels = omega (arith, c.if-levels-eq0.false) in
    let here : i < length old = rw c.deref.ensures.value at c.choose_subtree-index.ensures in
    let is = rw c.in-Parent.is at c.index_mut.ensures.value in
    let ends = rw c.in-Parent.child-is at c.in-None.ensures in
    let taken = rw (append-nil (set old i (Parent new))) at (child_in c.requires.place i child new None above here is ends.tree) in
    let tight = (covers c.requires.place g.met.T.Cover.Merges.merge_laws g.met.T.Covered.cover_law (set old i (Parent new)) c.envelope-envelope.ensures.own c.merge.ensures.merged c.envelope-envelope.ensures.value (rw append-nil at taken.bag) taken.kept).0 in
    record {
      tree = simp (c.in-Parent.is, outs-Parent) (whole_in c.requires.place g.met.T.Cover.Merges.merge_laws g.met.T.Covered.cover_law above taken refl refl tight);
      spends = simp (c.in-Parent.is, outs-Parent) (spends_as ends.spends (λ n few. omega (arith, rw append-nil at (child_roomy n c.args.levels old i child new None above here is), room_same n (with_item c.args.node.now.children i (Parent new)) c.args.node.now.children refl)));
      used = omega (arith, above, ends.used);
    }

pub add_child-requires-in-Some : goal.add_child-requires-in-Some
add_child-requires-in-Some g t c =
    let place = c.requires.place in
    let above : 0 < c.args.levels = omega (arith, c.if-levels-eq0.false) in
    let ends = rw c.in-Parent.child-is at c.in-Some.ensures in
    let taken = child_in place c.choose_subtree-index.result c.in-Parent.child c.insert_below.new.node (Some c.in-Some.second) above (rw c.deref.ensures.value at c.choose_subtree-index.ensures) (rw c.in-Parent.is at c.index_mut.ensures.value) ends.tree in
    record {
      covered = simp (c.in-Parent.is, outs-Parent) ((covers place g.met.T.Cover.Merges.merge_laws g.met.T.Covered.cover_law _ c.envelope-envelope.ensures.own c.merge.ensures.merged c.envelope-envelope.ensures.value (rw append-nil at taken.bag) taken.kept).1);
      narrow = rw (length-set, ends.spends.widest) place.node.narrow;
      ready = ready_again c.requires.ready ends.spends (omega (arith, c.requires.ready.enough, ends.used));
    }

pub returns : goal.returns
returns g t c =
    let old = c.args.node.now.children.items in
    let i = c.choose_subtree-index.result in
    let child = c.in-Parent.child in
    let middle = c.insert_below.new.node in
    let all = set old i (Parent middle) ++ Parent c.in-Some.second ∷ [] in
    let new = c.add_child-in-Some.new.node in
    let above : 0 < c.args.levels = omega (arith, c.if-levels-eq0.false) in
    let here : i < length old = rw c.deref.ensures.value at c.choose_subtree-index.ensures in
    let is = rw c.in-Parent.is at c.index_mut.ensures.value in
    let ends = rw c.in-Parent.child-is at c.in-Some.ensures in
    let cut = simp (c.in-Parent.is, outs-Parent, ends.spends.widest) at c.add_child-in-Some.ensures in
    record {
      tree = cut_in c.requires.place g.met.T.Cover.Merges.merge_laws g.met.T.Covered.cover_law g.Params.RTreeParams.min_positive (child_in c.requires.place i child middle (Some c.in-Some.second) above here is ends.tree) cut.adds refl refl;
      spends = spends_as (spends_both ends.spends cut.spends) (λ n few.
          omega (arith, parts_roomy n c.args.reserve.now.widest c.args.levels all new c.add_child-in-Some.result few cut.adds.same cut.adds.second_room, child_roomy n c.args.levels old i child middle (Some c.in-Some.second) above here is, room_same n (with_item c.args.node.now.children i (Parent middle)) c.args.node.now.children refl));
      used = omega (arith, above, ends.used, cut.used);
    }
