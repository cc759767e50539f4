use Rattle.std.proofs.Common.{◌≡◌, ◌≤◌, Bool, length, map, pos}
use Rattle.std.specs.List.{AllByRecursion}
use Rattle.std.specs.Iterator.{size}
use Rattle.rstar.specs.Points.{table}
use Rattle.rstar.specs.Neighbors.{neighbors_left, search_of, elements_waiting, IsGoingOn, IsSearching}
use Rattle.rstar_uses.specs.Tests.{Decides}
use Rattle.rstar_uses.proofs.Able.{HasFound}
use Rattle.rstar_uses.proofs.dispatch.first_able.Given as goal

abbrev pub invariant-search : goal.invariant-search
invariant-search g l = record {
  callable : goal.F-IsAlwaysCallable g l.is_able;
  searching : IsSearching g.T.Envelope.Envelope.boxes g.T.RTreeObject.object g.T.PointDistance.distances g.T.Envelope.Point.Point.DIMENSIONS g.T.Envelope.Point.Point.coord g.T.Envelope.Point.Scalar.Ord.cmp g.T.Envelope.Point.Scalar.Number.value l.neighbors;
  going_on : IsGoingOn (search_of l.neighbors);
  point : (search_of l.neighbors).point ≡ (search_of l.initial.neighbors).point;
  few : length l.found.items ≤ l.most;
  found : (able : _ → Bool) → Decides g.F.Fn l.is_able able → HasFound
      (λ t. g.T.PointDistance.distances.distance_2 t (table g.T.Envelope.Point.Point.DIMENSIONS (g.T.Envelope.Point.Point.coord (search_of l.initial.neighbors).point)))
      (g.T.Envelope.Point.Scalar.Number.value l.limit) able (elements_waiting (search_of l.initial.neighbors)) (map (λ n. n.0.now) l.found.items) (elements_waiting (search_of l.neighbors));
  told : AllByRecursion (λ n. g.T.Envelope.Point.Scalar.Number.value n.1
      ≡ pos (g.T.PointDistance.distances.distance_2 n.0.now (table g.T.Envelope.Point.Point.DIMENSIONS (g.T.Envelope.Point.Point.coord (search_of l.initial.neighbors).point)))) l.found.items;
}

abbrev pub decreases-search : goal.decreases-search
decreases-search g l = size (neighbors_left l.neighbors)
