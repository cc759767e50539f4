use Rattle.std.proofs.Common.{arith, sym, ap, ◌∙◌, refl, length}
use Rattle.std.proofs.lemmas.List.{nil_from_length}
use Rattle.std.proofs.lemmas.List.Sorted.{IsPermutation-refl, length_permutation}
use Rattle.std.proofs.lemmas.Result.{IfOk-from_err}
use Rattle.rstar.specs.Nodes.{all_elements}
use Rattle.rstar.specs.inside.Searches.{waiting_nodes}
use Rattle.rstar.proofs.selecting.Progress.{on_err}
use Rattle.rstar.proofs.searching.SearchTurns as turns
use Rattle.rstar.proofs.algorithm.nearest_neighbor.search.NodeSearch+T+O.advance.Goals as goal

pub loop-current-init : goal.loop-current-init
loop-current-init g c = record { root = refl; stage = refl; under_way = record { running = c.requires; bag = IsPermutation-refl _; fewer = omega arith } }

pub returns-in-Leaf : goal.returns-in-Leaf
returns-in-Leaf g c =
    let law = turns.measured-by g.met.T.Cover.Merges.merge_laws g.met.T.Covered.cover_law g.met.T.Measured.distance_laws c.known.ensures.range in
    let order = turns.order_of g.T.Distance.SquaredDistance.number g.T.Distance.Ord.cmp _ g.met.T.Distance.Ord.matches_partial_cmp g.met.T.Distance.SquaredDistance.number_order in
    let t = c.in-Leaf.t in
    assumption (
      c.loop-current.invariant,
      turns.leaf-running law order c.pop.new.self c.loop-current.invariant.under_way.running c.pop.ensures.ordered c.in-Some.ensures.some c.in-Some.ensures.greatest t c.in-Leaf.is,
      turns.leaf-gives law order c.pop.new.self c.loop-current.invariant.under_way.running c.pop.ensures.ordered c.in-Some.ensures.some c.in-Some.ensures.greatest t c.in-Leaf.is c.loop-current.invariant.under_way.bag,
      turns.leaf-at law order c.pop.new.self c.loop-current.invariant.under_way.running c.pop.ensures.ordered c.in-Some.ensures.some c.in-Some.ensures.greatest t c.in-Leaf.is,
      turns.leaf-first law order c.pop.new.self c.loop-current.invariant.under_way.running c.pop.ensures.ordered c.in-Some.ensures.some c.in-Some.ensures.greatest t c.in-Leaf.is,
    )

pub loop-current-smaller : goal.loop-current-smaller
loop-current-smaller g c =
    let law = turns.measured-by g.met.T.Cover.Merges.merge_laws g.met.T.Covered.cover_law g.met.T.Measured.distance_laws c.known.ensures.range in
    let order = turns.order_of g.T.Distance.SquaredDistance.number g.T.Distance.Ord.cmp _ g.met.T.Distance.Ord.matches_partial_cmp g.met.T.Distance.SquaredDistance.number_order in
    let put = rw c.deref.ensures.value at c.in_ok-add_children-in-Parent.ensures.added in
    omega (arith, turns.parent-fewer law order c.pop.new.self c.loop-current.invariant.under_way.running c.pop.ensures.ordered c.in-Some.ensures.some c.in-Some.ensures.greatest c.in-Parent.parent c.in-Parent.is c.add_children.new.self.heap put)

pub loop-current-preserved : goal.loop-current-preserved
loop-current-preserved g c =
    let law = turns.measured-by g.met.T.Cover.Merges.merge_laws g.met.T.Covered.cover_law g.met.T.Measured.distance_laws c.known.ensures.range in
    let order = turns.order_of g.T.Distance.SquaredDistance.number g.T.Distance.Ord.cmp _ g.met.T.Distance.Ord.matches_partial_cmp g.met.T.Distance.SquaredDistance.number_order in
    let put = rw c.deref.ensures.value at c.in_ok-add_children-in-Parent.ensures.added in
    record {
      root = c.add_children.ensures.root ∙ c.loop-current.invariant.root;
      stage = c.add_children.ensures.stage ∙ c.loop-current.invariant.stage;
      under_way = turns.parent-under-way law order c.pop.new.self c.loop-current.invariant.under_way.running c.pop.ensures.ordered c.in-Some.ensures.some c.in-Some.ensures.greatest c.in-Parent.parent c.in-Parent.is c.add_children.new.self.heap put
          c.loop-current.invariant.under_way.bag c.loop-current.invariant.under_way.fewer (c.add_children.ensures.waiting (turns.rest-waiting law order c.pop.new.self c.loop-current.invariant.under_way.running c.pop.ensures.ordered c.in-Some.ensures.some c.in-Some.ensures.greatest)) (c.add_children.ensures.opened ∙ c.saturating_add-self.ensures);
    }

pub returns-in_err-add_children-in-Parent : goal.returns-in_err-add_children-in-Parent
returns-in_err-add_children-in-Parent g c =
    let law = turns.measured-by g.met.T.Cover.Merges.merge_laws g.met.T.Covered.cover_law g.met.T.Measured.distance_laws c.known.ensures.range in
    let order = turns.order_of g.T.Distance.SquaredDistance.number g.T.Distance.Ord.cmp _ g.met.T.Distance.Ord.matches_partial_cmp g.met.T.Distance.SquaredDistance.number_order in
    record {
      root = c.add_children.ensures.root ∙ c.loop-current.invariant.root;
      stage = c.add_children.ensures.stage ∙ c.loop-current.invariant.stage;
      gives = IfOk-from_err c.from_residual.result _ c.from_residual.ensures.0;
      refused = on_err c.from_residual.result _
          (let many = rw c.deref.ensures.value at c.in_err-add_children-in-Parent.ensures.refused in
          let crowds = turns.parent-crowds law order c.pop.new.self c.loop-current.invariant.under_way.running c.pop.ensures.ordered c.in-Some.ensures.some c.in-Some.ensures.greatest c.in-Parent.parent c.in-Parent.is many in
          (omega (arith, crowds.0, c.loop-current.invariant.under_way.fewer), omega (arith, crowds.1, length_permutation _ _ c.loop-current.invariant.under_way.bag)));
    }

pub returns : goal.returns
returns g c = assumption (
  c.loop-current.invariant,
  turns.same-running (c.in_default.ensures.none ∙ sym c.in_default.ensures.stays) c.pop.ensures.ordered c.loop-current.invariant.under_way.running,
  nil_from_length _ (sym (length_permutation _ _ c.loop-current.invariant.under_way.bag) ∙ ap (λ ws. length (all_elements (waiting_nodes ws))) c.in_default.ensures.none),
  ap waiting_nodes c.in_default.ensures.stays,
)
