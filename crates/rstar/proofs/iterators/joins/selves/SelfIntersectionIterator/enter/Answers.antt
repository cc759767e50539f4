use Rattle.std.proofs.Common.{◌++◌, ◌∷◌, [], ◌∙◌, ap, sym, refl, arith, subst, take, length, length-append, append_assoc}
use Rattle.std.proofs.lemmas.Bool.{true≢false}
use Rattle.rstar.specs.Nodes.{AreWhole}
use Rattle.rstar.specs.inside.PairWalks.{AreJoinable, pairs_by}
use Rattle.rstar.specs.Joins.{meets_by}
use Rattle.rstar.specs.SelfJoins.{pairs_from_lists, opens_from_lists}
use Rattle.rstar.proofs.selecting.Traversals.{nil-length}
use Rattle.rstar.proofs.joining.Joined.{joinable}
use Rattle.rstar.proofs.joining.PairWalks.{idle-pairs, idle-opens}
use Rattle.rstar.proofs.joining.SelfPairs.{advanced, own-parent, last-list, taken-none, taken-leaf, taken-parent, takes-list}
use Rattle.rstar.proofs.iterators.joins.selves.SelfIntersectionIterator.enter.Goals as goal

pub returns-in_default : goal.returns-in_default
returns-in_default g c =
    let v = g.T.Cover.Merges.boxes in let o = g.T.Covered.object in let meets = meets_by v g.T.Meets.seen in
    let self = c.args.self.now in let had = c.requires.lists in let none = c.in_default.ensures.none in
    let walk = idle-pairs meets o.box_of o.box_of self.walk c.requires.idle in
    record {
      lists = advanced v o meets self _ refl (none.1 ∙ sym none.0) c.pop.ensures.capacity had (record { walk = had.walk; room = refl; count = λ all h. h });
      root = refl;
      given = ap (λ l. pairs_by meets o.box_of o.box_of self.walk ++ pairs_from_lists meets o.box_of l) (none.0 ∙ sym none.1);
      nearer = λ e. absurd (true≢false (sym e));
      over = λ _. ((λ i. walk i ++ pairs_from_lists meets o.box_of (none.1 i)), omega (arith, idle-opens meets o.box_of o.box_of self.walk c.requires.idle, ap (opens_from_lists meets o.box_of) none.1));
    }

pub returns-in_default-split_first : goal.returns-in_default-split_first
returns-in_default-split_first g c =
    let v = g.T.Cover.Merges.boxes in let o = g.T.Covered.object in let meets = meets_by v g.T.Meets.seen in
    let self = c.args.self.now in let had = c.requires.lists in
    let taken = taken-none v o meets _ _ _ _ c.in-Some.ensures.some had.lists (nil-length _ c.in_default-split_first.ensures.cases) in
    takes-list v o meets self _ had c.requires.idle taken c.pop.ensures.capacity refl had.walk refl
    (idle-pairs meets o.box_of o.box_of self.walk c.requires.idle) (idle-opens meets o.box_of o.box_of self.walk c.requires.idle) (λ n h. omega (arith, h))

pub begin-requires-clause-fits : goal.begin-requires-clause-fits
begin-requires-clause-fits g c =
    let v = g.T.Cover.Merges.boxes in let o = g.T.Covered.object in let self = c.args.self.now in
    let had = c.requires.lists in let node = c.in-Some-split_first.node.now in
    let behind = c.in-Some-split_first.behind.now in let first = c.in-Some-split_first.ensures.cases.0 in
    let last = last-list v o _ _ _ _ c.in-Some.ensures.some had.lists in
    let whole = subst (AreWhole v o last.level) first last.whole in
    subst (λ l. AreJoinable self.walk.path.capacity l behind) (sym (ap (take 1) first))
    (joinable v v o o self.walk.path.capacity last.level last.level (node ∷ []) behind (whole.0, tt) whole.1 (omega (arith, last.few, had.room)))

pub push_reserved-requires : goal.push_reserved-requires
push_reserved-requires g c =
    let had = c.requires.lists in
    omega (arith, (last-list g.T.Cover.Merges.boxes g.T.Covered.object _ _ _ _ c.in-Some.ensures.some had.lists).few, had.fits, c.pop.ensures.capacity)

pub push_reserved-requires-2 : goal.push_reserved-requires-2
push_reserved-requires-2 g c =
    let v = g.T.Cover.Merges.boxes in let o = g.T.Covered.object in let had = c.requires.lists in
    let behind = c.in-Some-split_first.behind in let last = last-list v o _ _ _ _ c.in-Some.ensures.some had.lists in
    let whole = subst (AreWhole v o last.level) c.in-Some-split_first.ensures.cases.0 last.whole in
    let low = own-parent v o last.level c.in-Some-split_first.node.now behind.now c.in-Parent.parent whole c.in-Parent.is in
    omega (
      arith,
      last.few,
      low.1,
      had.fits,
      c.pop.ensures.capacity,
      c.push_reserved.ensures.capacity,
      ap length c.push_reserved.ensures.items,
      length-append c.pop.new.self.items (behind ∷ []),
    )

pub returns-in_default-node : goal.returns-in_default-node
returns-in_default-node g c =
    let v = g.T.Cover.Merges.boxes in let o = g.T.Covered.object in let meets = meets_by v g.T.Meets.seen in
    let had = c.requires.lists in let first = c.in-Some-split_first.ensures.cases.0 in
    let taken = taken-leaf v o meets _ _ _ _ c.in-Some.ensures.some had.lists _ c.in-Some-split_first.behind _ first _ (ap (take 1) first)
    c.in_default-node.field-0 c.in_default-node.is c.push_reserved.ensures.items in
    takes-list v o meets c.args.self.now _ had c.requires.idle taken (c.push_reserved.ensures.capacity ∙ c.pop.ensures.capacity) refl
    c.begin.ensures.walk c.begin.ensures.room c.begin.ensures.pairs c.begin.ensures.opens (λ n h. omega (arith, h, c.begin.ensures.opened))

pub returns : goal.returns
returns g c =
    let v = g.T.Cover.Merges.boxes in let o = g.T.Covered.object in let meets = meets_by v g.T.Meets.seen in
    let had = c.requires.lists in let first = c.in-Some-split_first.ensures.cases.0 in
    let behind = c.in-Some-split_first.behind in let children = c.as_slice.result in
    let is = c.push_reserved-2.ensures.items ∙ ap (λ l. l ++ children ∷ []) c.push_reserved.ensures.items ∙ append_assoc c.pop.new.self.items (behind ∷ []) (children ∷ []) in
    let taken = taken-parent v o meets _ _ _ _ c.in-Some.ensures.some had.lists _ behind _ first _ (ap (take 1) first)
    children c.in-Parent.parent c.in-Parent.is c.as_slice.ensures.value is in
    takes-list v o meets c.args.self.now _ had c.requires.idle taken (c.push_reserved-2.ensures.capacity ∙ c.push_reserved.ensures.capacity ∙ c.pop.ensures.capacity) refl
    c.begin.ensures.walk c.begin.ensures.room c.begin.ensures.pairs c.begin.ensures.opens (λ n h. omega (arith, h, c.begin.ensures.opened, c.saturating_add-self.ensures))
