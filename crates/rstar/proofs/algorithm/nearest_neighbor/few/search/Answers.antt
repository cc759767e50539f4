use Rattle.std.proofs.Common.{arith, ap, ◌≤◌, ◌∙◌}
use Rattle.std.proofs.lemmas.List.Sorted.{IsPermutation-sym}
use Rattle.rstar_base.proofs.Lists.{all_along}
use Rattle.rstar_base.specs.SmallHeaps.{items_of}
use Rattle.rstar.specs.inside.Few.{waiting_parents}
use Rattle.rstar.specs.Nodes.{all_parents, elements_of, parents_of}
use Rattle.rstar.specs.inside.Searches.{any_first}
use Rattle.rstar.proofs.searching.Few as few
use Rattle.rstar.proofs.searching.SearchTurns.{measured-by, order_of}
use Rattle.rstar.proofs.searching.Seeking as seeking
use Rattle.rstar.proofs.selecting.Progress.{on_err}
use Rattle.rstar.proofs.trees.ByChildren.{parents-Parent}
use Rattle.rstar.proofs.algorithm.nearest_neighbor.few.search.Goals as goal

pub loop-current-init : goal.loop-current-init
loop-current-init g c =
    let waiting = c.in_ok-open.ensures.visits.waiting (rw c.new-heap.ensures.none tt) in
    let few = rw (c.new-heap.ensures.none, c.deref.ensures.value) at c.in_ok-open.ensures.visits.fewer in
    let below : all_parents (waiting_parents (items_of c.open.new.heap)) ≤ parents_of c.args.root.now = omega (arith, few) in
    assumption (below, c.in_ok-open.ensures.visits, seeking.visits-all c.in_ok-open.ensures.visits (elements_of c.args.root.now) (rw c.deref.ensures.value (seeking.seek-start c.new-heap.ensures.none c.requires.none c.requires.unbound c.requires.whole)))

pub loop-current-smaller : goal.loop-current-smaller
loop-current-smaller g c =
    omega (arith, few.pushed-parents (IsPermutation-sym _ _ c.in-Some.ensures.some), parents-Parent c.in-Some.current.node.now, ap all_parents c.deref-in-Some.ensures.value, c.in_ok-open-2.ensures.visits.fewer)

pub loop-current-preserved : goal.loop-current-preserved
loop-current-preserved g c =
    let law = measured-by g.met.T.Cover.Merges.merge_laws g.met.T.Covered.cover_law g.met.T.Measured.distance_laws c.known.ensures.range in
    let opened = seeking.seek-step (λ left. few.so-far-parent law c.in-Some.current.node.now) (seeking.seek-popped c.in-Some.ensures.some c.loop-current.invariant.first) in
    record {
      ordered = c.in_ok-open-2.ensures.visits.ordered;
      best = c.in_ok-open-2.ensures.visits.best;
      same = c.in_ok-open-2.ensures.visits.same ∙ c.loop-current.invariant.same;
      few = omega (arith, few.pushed-parents (IsPermutation-sym _ _ c.in-Some.ensures.some), parents-Parent c.in-Some.current.node.now, ap all_parents c.deref-in-Some.ensures.value, c.in_ok-open-2.ensures.visits.fewer, c.loop-current.invariant.few);
      waiting = c.in_ok-open-2.ensures.visits.waiting (all_along _ _ _ c.in-Some.ensures.some c.loop-current.invariant.waiting).1;
      first = seeking.visits-all c.in_ok-open-2.ensures.visits (elements_of c.args.root.now) (rw c.deref-in-Some.ensures.value opened);
    }

pub returns-in_err-open-clause-refused : goal.returns-in_err-open-clause-refused
returns-in_err-open-clause-refused g c = λ one.
    let many = rw (c.new-heap.ensures.none, c.deref.ensures.value) at (c.in_err-open.ensures.refused one) in
    on_err c.from_residual.result _ (omega (arith, many))

pub returns-in_err-open-2-clause-refused : goal.returns-in_err-open-2-clause-refused
returns-in_err-open-2-clause-refused g c = λ one.
    on_err c.from_residual-in_err-open-2.result _ (omega (arith, c.in_err-open-2.ensures.refused (c.loop-current.invariant.same ∙ one), few.pushed-parents (IsPermutation-sym _ _ c.in-Some.ensures.some), parents-Parent c.in-Some.current.node.now, ap all_parents c.deref-in-Some.ensures.value, c.loop-current.invariant.few))

pub returns-then-rules_out-clause-first : goal.returns-then-rules_out-clause-first
returns-then-rules_out-clause-first g c =
    let law = measured-by g.met.T.Cover.Merges.merge_laws g.met.T.Covered.cover_law g.met.T.Measured.distance_laws c.known.ensures.range in
    let order = order_of g.T.Distance.SquaredDistance.number g.T.Distance.Ord.cmp _ g.met.T.Distance.Ord.matches_partial_cmp g.met.T.Distance.SquaredDistance.number_order in
    seeking.seek-end c.loop-current.best.bound c.loop-current.best.kept c.loop-current.invariant.best.kept
    (seeking.seek-stops law order any_first c.in-Some.ensures.some c.in-Some.ensures.greatest c.loop-current.invariant.waiting (c.rules_out.ensures.above c.if-rules_out.true) c.loop-current.invariant.first)

pub returns-clause-first : goal.returns-clause-first
returns-clause-first g c = seeking.seek-end c.loop-current.best.bound c.loop-current.best.kept c.loop-current.invariant.best.kept (rw c.in_default.ensures.none at c.loop-current.invariant.first)
