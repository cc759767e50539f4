use Rattle.std.proofs.Common.{◌≡◌, ◌≢◌, ◌⊎◌, inl, inr, [], ◌∙◌, refl, sym, arith, rules}
use Rattle.std.proofs.lemmas.Bool.{true≢false}
use Rattle.rstar.specs.Joins.{meets_by, IsJoining, pairs_to_come}
use Rattle.rstar.specs.Meets.{meet_of_roots, pairs_from_roots}
use Rattle.rstar.specs.Nodes.{children_of}
use Rattle.rstar.proofs.selecting.Traversals.{no-items, some-items}
use Rattle.rstar.proofs.joining.PairWalks.{idle-pairs, idle-opens}
use Rattle.rstar.proofs.joining.Joined.{roots-joinable, roots-counted, roots-apart, roots-empty, roots-met}
use Rattle.rstar.proofs.iterators.joins.IntersectionIterator.new.Goals as goal
use Rattle.rstar.proofs.iterators.joins.IntersectionIterator.new.Goals.{then-is_empty, else-is_empty, then-empty-via-then-empty, then-empty-via-else-empty+then-not-meet}

pub returns-then-empty : goal.returns-then-empty
unfolding pairs_to_come IsJoining
returns-then-empty g c =
    let meets = meets_by g.T.Cover.Merges.boxes g.U.Meets.seen in let left_box = g.T.Covered.object.box_of in
    let right_box = g.U.Covered.object.box_of in let left = c.args.left.now in let right = c.args.right.now in
    let none : (meet_of_roots meets left_box right_box left right ≡ 0) × (pairs_from_roots meets left_box right_box left right ≡ []) = elim c.then-empty.branch [
      | then-empty-via-then-empty w ↦
          let empty : (children_of left ≡ []) ⊎ (children_of right ≡ []) = elim c.if-is_empty.branch [
            | then-is_empty u ↦ inl (no-items (children_of left) _ _ c.is_empty.ensures u.if-is_empty.true left.children.ok.0)
            | else-is_empty u ↦ inr (no-items (children_of right) _ _ u.is_empty-empty.ensures (sym u.empty-is ∙ w.if-empty.true) right.children.ok.0)
          ] in
          roots-empty meets left_box right_box left right empty
      | then-empty-via-else-empty+then-not-meet w ↦
          roots-apart g.met.T.Cover.Merges.merge_laws g.met.U.Cover.Merges.merge_laws g.met.U.Meets.seen_laws g.met.T.Covered.cover_law g.met.U.Covered.cover_law
          left right c.requires.left c.requires.right
          (sym w.meet.ensures ∙ w.if-not-meet.true)
    ] in
    record {
      gives = idle-pairs meets left_box right_box c.in_ok-walk.walk c.in_ok-walk.ensures.idle ∙ sym none.1;
      made = search rules;
      joining = record {
        walk = c.in_ok-walk.ensures.walk;
        count = record {
          count = 0;
          counted = omega (arith, c.in_ok-walk.ensures.opened);
          whole = omega (arith, idle-opens meets left_box right_box c.in_ok-walk.walk c.in_ok-walk.ensures.idle, none.0);
        };
      };
      near = search rules;
    }

pub begin-requires-clause-fits : goal.begin-requires-clause-fits
begin-requires-clause-fits g c =
    rw (c.as_slice.ensures.value, c.as_slice-2.ensures.value)
    (roots-joinable c.requires.left c.requires.right _ (omega (arith, c.requires.levels, c.in_ok-walk.ensures.room)))

pub returns : goal.returns
unfolding pairs_to_come IsJoining
returns g c =
    let meets = meets_by g.T.Cover.Merges.boxes g.U.Meets.seen in let left_box = g.T.Covered.object.box_of in
    let right_box = g.U.Covered.object.box_of in let left = c.args.left.now in let right = c.args.right.now in
    let does = sym c.meet.ensures ∙ c.if-not-meet.false in
    let some : (children_of left ≢ []) × (children_of right ≢ []) = elim c.if-is_empty.branch [
      | then-is_empty u ↦ absurd (true≢false (sym u.if-is_empty.true ∙ sym u.empty-is ∙ c.if-empty.false))
      | else-is_empty u ↦ (some-items (children_of left) _ _ c.is_empty.ensures u.if-is_empty.false left.children.ok.0, some-items (children_of right) _ _ u.is_empty-empty.ensures (sym u.empty-is ∙ c.if-empty.false) right.children.ok.0)
    ] in
    let all = roots-counted g.met.T.Cover.Merges.merge_laws g.met.U.Cover.Merges.merge_laws g.met.U.Meets.seen_laws g.met.T.Covered.cover_law g.met.U.Covered.cover_law
    left right c.requires.left c.requires.right does some.0 some.1 in
    let pairs = rw (c.as_slice.ensures.value, c.as_slice-2.ensures.value) at c.begin.ensures.pairs in
    let opens = rw (c.as_slice.ensures.value, c.as_slice-2.ensures.value) at c.begin.ensures.opens in
    record {
      gives = pairs ∙ sym (roots-met meets left_box right_box left right does);
      made = record { left_over = refl; right_over = refl; opened = omega arith; at_most = omega (arith, all) };
      joining = record { walk = c.begin.ensures.walk; count = record { count = 1; counted = omega arith; whole = omega (arith, opens, all) } };
      near = search rules;
    }
