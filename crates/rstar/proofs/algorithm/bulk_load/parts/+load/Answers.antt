use Rattle.std.proofs.Common.{arith, false, ◌≡◌, ◌≢◌, ◌+◌, ◌-◌, ◌*◌, ◌<◌, ◌≤◌, ℕ, suc, List, drop, length, refl, sym, ap, ◌∙◌, rules}
use Rattle.std.proofs.Math.Nat.{le_trans, le_of_eq, le-min, min-le_right, sub-le}
use Rattle.std.proofs.Math.Arith.{le-zero}
use Rattle.std.proofs.lemmas.List.Sorted.{All-permutation, IsPermutation-refl, length_permutation}
use Rattle.rstar.specs.inside.Loads.{CanLoad, front_of, last_of}
use Rattle.rstar.proofs.loading.Loads.{previous, cluster_bound, deep_large, deep_parts, deep_slab, slab_positive, leaves_parent, leaves_elements, parts_parent, one_part, underway_start, underway_more, underway_end, fresh_wider, next_size, length_last, length_front, last_has, some_last, last_none, front_front, front_has}
use Rattle.rstar.proofs.algorithm.bulk_load.parts.+load.Goals as goal

-- ---- numbers, by lemmas that read no more than they need

-- the measures fall
parts_below : (b d a t : ℕ) → b * (d + 2) ≡ t → b ≢ 0 → a ≡ d → (b - 1) * (d + 2) + a + 1 < t
parts_below b d a t e some k = let whole : suc (b - 1) * (d + 2) ≡ t = rw (previous b some) e in omega arith

slab_below : (x a t : ℕ) → x + a + 1 ≡ t → a ≢ 0 → x + (a - 1) + 1 < t
slab_below x a t e some = omega (arith, previous a some)

less_by : (s m n : ℕ) → m ≤ n → m - s ≤ n - s
less_by s m n h = omega arith

-- ---- a node

-- the elements are the last of the list
last_are : {T : Type 0} (len long : ℕ) (all elements : List T) → long ≡ length all → elements ≡ drop (long - len) all → elements ≡ last_of len all
last_are len long all elements is tail = rw is at tail

pub load_node-returns-then-below-eq0-clause-same : goal.load_node-returns-then-below-eq0-clause-same
load_node-returns-then-below-eq0-clause-same g t c =
    let last = last_are c.args.len c.len.result c.args.list.now.items c.in_ok-elements.elements.items (c.len.ensures ∙ c.args.list.now.ok.0) c.in_ok-elements.ensures.tail in
    rw (← last, c.in_ok-children.ensures, leaves_elements) (IsPermutation-refl _)

pub load_node-returns-then-below-eq0-clause-fresh : goal.load_node-returns-then-below-eq0-clause-fresh
load_node-returns-then-below-eq0-clause-fresh g t c =
    let last = last_are c.args.len c.len.result c.args.list.now.items c.in_ok-elements.elements.items (c.len.ensures ∙ c.args.list.now.ok.0) c.in_ok-elements.ensures.tail in
    rw c.if-below-eq0.true (leaves_parent g.T.Cover.Merges.boxes g.T.Covered.object g.Params.RTreeParams.MAX_SIZE c.widen.new.widest g.T.InSlabs.axes (rw c.deref.ensures.value at c.envelope_of_all-envelope.ensures.own)
    (rw last (last_has (λ t'. g.T.Cover.Merges.boxes.is_empty (g.T.Covered.object.box_of t') ≡ false) c.args.len c.args.list.now.items c.requires.part.elements))
    (λ none. some_last c.args.len c.args.list.now.items c.requires.part.some c.requires.part.within (sym last ∙ none)) c.in_ok-children.ensures
    (rw c.deref.ensures.value at c.envelope_of_all-envelope.ensures.hull) c.widen.ensures.narrow)

pub load_node-slabs_on_axis-clusters-requires-clause-large : goal.load_node-slabs_on_axis-clusters-requires-clause-large
load_node-slabs_on_axis-clusters-requires-clause-large g t c = deep_large g.Params.RTreeParams.MAX_SIZE g.T.InSlabs.axes c.args.below c.args.len c.if-below-eq0.false c.requires.deep

pub load_node-load_parts-requires : goal.load_node-load_parts-requires
load_node-load_parts-requires g t c κs within =
    let number = c.slabs_on_axis-clusters.ensures.number in
    let deep = deep_parts g.Params.RTreeParams.MAX_SIZE g.T.InSlabs.axes c.axes-axes.result c.args.below c.args.len c.slabs_on_axis-clusters.result number.0 c.if-below-eq0.false c.requires.deep c.axes-axes.ensures number.1 number.2 in
    let falls = parts_below c.args.below g.T.InSlabs.axes c.axes-axes.result t c.decreases c.if-below-eq0.false c.axes-axes.ensures in
    (falls, (within.0, (within.1.0, (within.1.1, (c.requires.part, (c.requires.dimensions, (le_of_eq c.axes-axes.ensures, (c.slabs_on_axis-clusters.ensures.least, deep))))))))

pub load_node-returns-clause-fresh : goal.load_node-returns-clause-fresh
load_node-returns-clause-fresh g t c =
    let number = c.slabs_on_axis-clusters.ensures.number in
    let long : length (last_of c.args.len c.args.list.now.items) ≡ c.args.len = length_last c.args.len c.args.list.now.items c.requires.part.within in
    parts_parent g.met.T.Cover.Merges.merge_laws g.met.T.Covered.cover_law g.Params.RTreeParams.MAX_SIZE c.widen-2.new.widest g.T.InSlabs.axes (c.args.below - 1) c.load_parts.new.widest c.slabs_on_axis-clusters.result number.0
    (last_of c.args.len c.args.list.now.items) (rw long (deep_large g.Params.RTreeParams.MAX_SIZE g.T.InSlabs.axes c.args.below c.args.len c.if-below-eq0.false c.requires.deep)) c.slabs_on_axis-clusters.ensures.least
    (rw number.2 (cluster_bound g.Params.RTreeParams.MAX_SIZE g.T.InSlabs.axes c.args.len number.0 (omega (arith, g.Params.RTreeParams.max_at_least_four)) number.1)) c.requires.dimensions
    (rw long number.1) number.2 c.widen-2.ensures.wider.0 (rw (c.in_ok-children-2.ensures.items, c.axes-axes.ensures) at c.in_ok-load_parts.ensures.adds) refl (previous c.args.below c.if-below-eq0.false)
    (rw c.deref-2.ensures.value at c.envelope_for_children-envelope.ensures.hull) c.widen-2.ensures.narrow

-- ---- parts

pub load_parts-returns-then-axes-eq0-clause-adds : goal.load_parts-returns-then-axes-eq0-clause-adds
load_parts-returns-then-axes-eq0-clause-adds g t c = one_part c.if-axes-eq0.true c.in_ok-push.ensures.items c.in_ok-node.ensures.same c.in_ok-node.ensures.fresh

pub load_parts-loop-rest-init : goal.load_parts-loop-rest-init
load_parts-loop-rest-init g t c =
    search (rules, c.requires.part.elements, underway_start, some_last c.args.len c.args.list.now.items c.requires.part.some c.requires.part.within)

pub load_parts-load_parts-requires : goal.load_parts-load_parts-requires
load_parts-load_parts-requires g t c κs within =
    let old = c.loop-rest.list.items in
    let new = c.cut_slab-slab.new.list.items in
    let slab = c.cut_slab-slab.result in
    let cut = c.cut_slab-slab.ensures in
    let held : 0 < c.div_ceil-size.result = slab_positive c.args.len c.args.clusters c.div_ceil-size.result c.requires.clusters c.requires.part.some c.div_ceil-size.ensures in
    let less : slab ≤ c.loop-rest.rest = rw cut.count (min-le_right _ _) in
    let fits : slab ≤ length new = rw (length_permutation old new cut.same) (le_trans less c.loop-rest.invariant.within) in
    let each = All-permutation (λ t'. g.T.Cover.Merges.boxes.is_empty (g.T.Covered.object.box_of t') ≡ false) old new cut.same c.loop-rest.invariant.each in
    let long : length (last_of c.args.len c.args.list.now.items) ≡ c.args.len = length_last c.args.len c.args.list.now.items c.requires.part.within in
    let next = rw (long, length_last slab new fits) at (next_size c.loop-rest.invariant.parts cut.cut (rw long c.div_ceil-size.ensures) (some_last c.loop-rest.rest old c.loop-rest-test.true c.loop-rest.invariant.within)) in
    let deep = deep_slab g.Params.RTreeParams.MAX_SIZE g.T.InSlabs.axes c.args.below c.args.clusters c.args.axes c.args.len slab c.if-axes-eq0.false c.requires.deep next in
    let falls = slab_below (c.args.below * (g.T.InSlabs.axes + 2)) c.args.axes t c.decreases c.if-axes-eq0.false in
    let part : CanLoad g.T.Cover.Merges.boxes g.T.Covered.object slab new c.loop-rest.widest =
    record { some = rw cut.count (le-min held c.loop-rest-test.true); within = fits; elements = each; counted = c.loop-rest.invariant.counted } in
    (falls, (within.0, (within.1.0, (within.1.1, (part, (c.requires.dimensions, (le_trans (sub-le c.args.axes 1) c.requires.axes, (c.requires.clusters, deep))))))))

pub load_parts-loop-rest-preserved : goal.load_parts-loop-rest-preserved
load_parts-loop-rest-preserved g t c =
    let so_far = c.loop-rest.invariant in
    let old = c.loop-rest.list.items in
    let new = c.cut_slab-slab.new.list.items in
    let slab = c.cut_slab-slab.result in
    let cut = c.cut_slab-slab.ensures in
    let step = c.in_ok-load_parts.ensures in
    let rests : c.loop-rest.rest ≤ length new = rw (length_permutation old new cut.same) so_far.within in
    let less : slab ≤ c.loop-rest.rest = rw cut.count (min-le_right _ _) in
    let each = All-permutation (λ t'. g.T.Cover.Merges.boxes.is_empty (g.T.Covered.object.box_of t') ≡ false) old new cut.same so_far.each in
    let long : length (last_of c.args.len c.args.list.now.items) ≡ c.args.len = length_last c.args.len c.args.list.now.items c.requires.part.within in
    record {
      within = rw (step.left, length_front slab new) (less_by slab c.loop-rest.rest (length new) rests);
      front = ap (front_of (c.loop-rest.rest - slab)) step.left ∙ front_front slab c.loop-rest.rest new less rests ∙ cut.front ∙ so_far.front;
      each = rw step.left (front_has (λ t'. g.T.Cover.Merges.boxes.is_empty (g.T.Covered.object.box_of t') ≡ false) slab new each);
      wider = le_trans so_far.wider step.wider.0;
      counted = step.wider.1;
      parts = rw step.left (underway_more (fresh_wider g.T.Cover.Merges.boxes g.T.Covered.object g.Params.RTreeParams.MAX_SIZE c.loop-rest.widest c.load_parts.new.widest g.T.InSlabs.axes c.args.below step.wider.0)
          so_far.parts cut.cut (rw long c.div_ceil-size.ensures) (some_last c.loop-rest.rest old c.loop-rest-test.true so_far.within) step.adds);
    }

pub load_parts-returns-clause-adds : goal.load_parts-returns-clause-adds
load_parts-returns-clause-adds g t c =
    underway_end c.requires.clusters c.loop-rest.invariant.parts
    (ap (λ n. last_of n c.loop-rest.list.items) (le-zero c.loop-rest-test.false) ∙ last_none c.loop-rest.list.items) (previous c.args.axes c.if-axes-eq0.false)
