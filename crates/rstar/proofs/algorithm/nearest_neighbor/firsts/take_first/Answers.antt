use Rattle.std.proofs.Common.{◌∷◌, [], ap, arith, length}
use Rattle.std.proofs.lemmas.List.{map-append, length-map, length-append}
use Rattle.rstar_base.proofs.Lists.{all-append}
use Rattle.rstar.specs.Nodes.{all_elements}
use Rattle.rstar.specs.inside.Searches.{waiting_of}
use Rattle.rstar.proofs.searching.ByOrder.{all-later, whole-waiting}
use Rattle.rstar.proofs.searching.InOrder.{none-first, more-first}
use Rattle.rstar.proofs.searching.SearchTurns.{measured-by}
use Rattle.rstar.proofs.algorithm.nearest_neighbor.firsts.take_first.Goals as goal

pub loop-turn-init : goal.loop-turn-init
loop-turn-init g c =
    let none = c.in_ok-found.ensures.items in
    record {
      ready = c.requires.ready _;
      unrefused = rw c.requires.fresh tt;
      first = λ order by. rw none (none-first _ _);
      distances = rw none tt;
      count = ap length none;
    }

pub loop-turn-preserved : goal.loop-turn-preserved
loop-turn-preserved g c =
    let law = measured-by g.met.T.Cover.Merges.merge_laws g.met.T.Covered.cover_law g.met.T.Measured.distance_laws c.known.ensures.range in
    let gives = rw c.in_ok-t.was at c.in-Some.ensures.gives in
    let first = rw c.in_ok-t.was at c.in-Some.ensures.first in
    let on = rw c.in_ok-t.was at c.in-Some.ensures.goes_on in
    let more = c.in_ok-push.ensures.items in
    let whole = whole-waiting g.T.Cover.Merges.boxes g.T.Measured.distances (g.T.Measured.at c.args.point.now) g.T.Distance.Ord.cmp g.O.TieOrder.order g.T.Distance.SquaredDistance.number g.T.Covered.object _ _ _ _ on c.next_neighbor.ensures.ready in
    record {
      ready = c.next_neighbor.ensures.ready;
      unrefused = rw on tt;
      first = λ order by. rw (more, map-append) (more-first _ _ _ _ _ c.in_ok-t.t.now (c.loop-turn.invariant.first order by) gives.bag (all-later law g.O.TieOrder.order order by c.in_ok-t.t.now (waiting_of c.next_neighbor.new.self) whole first));
      distances = rw more (all-append _ c.loop-turn.found.items _ c.loop-turn.invariant.distances ((rw c.in_ok-t.was at c.in-Some.ensures.distance), tt));
      count = omega (arith, ap length more, length-append c.loop-turn.found.items ((c.in_ok-t.t, c.in_ok-t.distance) ∷ []), c.loop-turn.invariant.count);
    }

pub returns-in_default : goal.returns-in_default
returns-in_default g c = record {
  first = λ order by. record {
    left = all_elements (waiting_of c.loop-turn.search);
    first = c.loop-turn.invariant.first order by;
    few = omega (arith, c.loop-turn.invariant.count, length-map c.loop-turn.found.items (λ n. n.0.now));
    enough = λ less. c.in_default.ensures.none c.loop-turn.invariant.unrefused;
  };
  distances = c.loop-turn.invariant.distances;
}

pub returns : goal.returns
returns g c = record {
  first = λ order by. record {
    left = all_elements (waiting_of c.loop-turn.search);
    first = c.loop-turn.invariant.first order by;
    few = omega (arith, c.loop-turn.invariant.count, length-map c.loop-turn.found.items (λ n. n.0.now));
    enough = λ less. absurd (omega (arith, c.loop-turn.invariant.count, length-map c.loop-turn.found.items (λ n. n.0.now), less));
  };
  distances = c.loop-turn.invariant.distances;
}
