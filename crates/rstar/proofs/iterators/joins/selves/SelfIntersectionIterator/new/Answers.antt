use Rattle.std.proofs.Common.{◌+◌, ◌++◌, ◌∷◌, [], ◌∙◌, ap, sym, refl, arith, subst, rules}
use Rattle.rstar.specs.Nodes.{children_of, AreWhole, IsInner, IsElement}
use Rattle.rstar.specs.Joins.{meets_by}
use Rattle.rstar.specs.SelfJoins.{pairs_from_lists, opens_from_lists, opens_within, pairs_within, AreLists, IsSelfJoining, own_to_come}
use Rattle.rstar.proofs.joining.PairWalks.{idle-pairs, idle-opens}
use Rattle.rstar.proofs.joining.SelfPairs.{own-started}
use Rattle.rstar.proofs.trees.Heights.{at_levels}
use Rattle.rstar.proofs.iterators.joins.selves.SelfIntersectionIterator.new.Goals as goal

pub returns : goal.returns
unfolding own_to_come IsSelfJoining
returns g c =
    let v = g.T.Cover.Merges.boxes in let o = g.T.Covered.object in let meets = meets_by v g.T.Meets.seen in
    let levels = c.args.levels in let children = children_of c.args.root.now in
    let is = c.push_reserved.ensures.items ∙ ap (λ l. l ++ c.as_slice.result ∷ []) c.in_ok-lists.ensures.empty in
    let whole = subst (AreWhole v o levels) (sym c.as_slice.ensures.value) (at_levels (IsInner v o) (IsElement v o) (λ p q. q.1) c.requires.whole.height levels children c.requires.levels c.requires.whole.below) in
    let started = own-started meets o.box_of children in
    let none = idle-pairs meets o.box_of o.box_of c.in_ok-walk.walk c.in_ok-walk.ensures.idle in
    record {
      gives = (λ i. none i ++ pairs_from_lists meets o.box_of (is i)) ∙ ap (pairs_within meets o.box_of) c.as_slice.ensures.value;
      made = record { over = refl; opened = omega (arith, c.min.ensures); at_most = omega (arith, started, c.min.ensures, c.len.ensures) };
      joining = record {
        walk = c.in_ok-walk.ensures.walk;
        height = levels;
        room = c.in_ok-walk.ensures.room;
        lists = subst (AreLists v o (levels + 1)) (sym is) (levels, omega arith, whole, tt);
        fits = omega (arith, c.push_reserved.ensures.capacity, c.in_ok-lists.ensures.room, c.in_ok-lists.ensures.small, c.saturating_add.ensures);
        count = c.min.result;
        counted = omega (arith, c.min.ensures);
        all = omega (
          arith,
          started,
          idle-opens meets o.box_of o.box_of c.in_ok-walk.walk c.in_ok-walk.ensures.idle,
          ap (opens_from_lists meets o.box_of) is,
          ap (opens_within meets o.box_of) c.as_slice.ensures.value,
          c.min.ensures,
          c.len.ensures,
        );
      };
      near = search rules;
    }
