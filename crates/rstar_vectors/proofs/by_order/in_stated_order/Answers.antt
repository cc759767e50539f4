use Rattle.std.proofs.Common.{◌∙◌}
use Rattle.std.specs.Cmp.{nat_cmp_total, on_total, then_total}
use Rattle.std.proofs.lemmas.List.Sorted.{IsPermutation-sym, IsPermutation-trans}
use Rattle.rstar_base.specs.Points.{table}
use Rattle.rstar.specs.ByOrder.{GivesByOrder}
use Rattle.rstar.specs.Lists.{by_distance}
use Rattle.rstar.proofs.searching.InOrder.{ordered_end}
use Rattle.rstar.proofs.searching.OneOrder.{one-order}
use Rattle.rstar_vectors.proofs.Drained.{none-taken, one-more-taken}
use Rattle.rstar_vectors.proofs.by_order.in_stated_order.Goals as goal

pub loop-found-init : goal.loop-found-init
loop-found-init g c = record {
  searching = c.nearest_neighbor_iter_by_order-neighbors.ensures.searching;
  given = none-taken (GivesByOrder g.T.Envelope.Envelope.boxes g.T.RTreeObject.object g.T.PointDistance.distances g.T.Ord.cmp g.T.Envelope.Point.Point.DIMENSIONS g.T.Envelope.Point.Point.coord g.T.Envelope.Point.Scalar.Ord.cmp g.T.Envelope.Point.Scalar.Number.value)
      _ c.nearest_neighbor_iter_by_order-neighbors.result c.new-all.ensures.items;
}

pub loop-found-preserved : goal.loop-found-preserved
loop-found-preserved g c = record {
  searching = c.in-Some.ensures.steps.3;
  given = one-more-taken (GivesByOrder g.T.Envelope.Envelope.boxes g.T.RTreeObject.object g.T.PointDistance.distances g.T.Ord.cmp g.T.Envelope.Point.Point.DIMENSIONS g.T.Envelope.Point.Point.coord g.T.Envelope.Point.Scalar.Ord.cmp g.T.Envelope.Point.Scalar.Number.value)
      c.loop-found.all.items _ _ c.nearest_neighbor_iter_by_order-neighbors.result c.loop-found.neighbors c.next.new.self c.in_ok-push.ensures.items c.loop-found.invariant.given (rw c.in_ok-item.was at c.in-Some.ensures.steps);
}

pub returns : goal.returns
returns g c =
    let end = ordered_end g.T.Envelope.Envelope.boxes g.T.RTreeObject.object g.T.PointDistance.distances g.T.Ord.cmp g.T.Envelope.Point.Point.DIMENSIONS g.T.Envelope.Point.Point.coord g.T.Envelope.Point.Scalar.Ord.cmp g.T.Envelope.Point.Scalar.Number.value
    _ _ _ c.nearest_neighbor_iter_by_order-neighbors.ensures.begun _ c.loop-found.neighbors c.next.new.self c.loop-found.invariant.given c.in_default.ensures.steps in
    record {
      all = end.0;
      order = end.1;
      one = λ other bag order. one-order (by_distance (λ t. g.T.PointDistance.distances.distance_2 t (table g.T.Envelope.Point.Point.DIMENSIONS (g.T.Envelope.Point.Point.coord c.args.place))) g.T.Ord.cmp)
          (then_total (on_total (λ t. g.T.PointDistance.distances.distance_2 t (table g.T.Envelope.Point.Point.DIMENSIONS (g.T.Envelope.Point.Point.coord c.args.place))) nat_cmp_total) g.met.T.Ord.total) _ other (IsPermutation-trans _ _ _ (IsPermutation-sym _ _ end.0) bag) end.1 order;
      distances = end.2;
      opened = c.opened.ensures ∙ end.3;
    }
