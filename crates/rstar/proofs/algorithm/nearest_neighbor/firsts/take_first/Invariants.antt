use Rattle.std.proofs.Common.{◌≡◌, length, map, pos}
use Rattle.std.specs.List.{AllByRecursion}
use Rattle.std.specs.declared.cmp.Ordering.{Ordering}
use Rattle.rstar.specs.Lists.{IsNotLater, AreFirst}
use Rattle.rstar.specs.Nodes.{all_elements}
use Rattle.rstar.specs.inside.Searches.{waiting_of, IsReady, IsUnrefused, TiesBy}
use Rattle.rstar.proofs.algorithm.nearest_neighbor.firsts.take_first.Given as goal

-- the first so far were taken, one a turn, with their distances
abbrev pub invariant-loop-turn : goal.invariant-loop-turn
invariant-loop-turn g l = record {
  ready : IsReady g.T.Cover.Merges.boxes g.T.Measured.distances (g.T.Measured.at l.fn.point) g.T.Distance.Ord.cmp g.O.TieOrder.order g.T.Distance.SquaredDistance.number g.T.Covered.object l.search;
  unrefused : IsUnrefused l.search.stage;
  first : (order : g.row.T.Denot → g.row.T.Denot → Ordering) → TiesBy g.O.TieOrder.order order
      → AreFirst (IsNotLater (λ t. g.T.Measured.distances.distance_2 t (g.T.Measured.at l.fn.point)) order) (all_elements (waiting_of l.fn.search)) (map (λ n. n.0.now) l.found.items) (all_elements (waiting_of l.search));
  distances : AllByRecursion (λ n. g.T.Distance.SquaredDistance.number n.1 ≡ pos (g.T.Measured.distances.distance_2 n.0.now (g.T.Measured.at l.fn.point))) l.found.items;
  count : length l.found.items ≡ l._turn;
}
