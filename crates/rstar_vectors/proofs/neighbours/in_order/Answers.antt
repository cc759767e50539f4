use Rattle.std.proofs.Common.{◌∙◌}
use Rattle.rstar.specs.Neighbors.{GivesElement}
use Rattle.rstar.proofs.searching.InOrder.{neighbors_end}
use Rattle.rstar_vectors.proofs.Drained.{none-taken, one-more-taken}
use Rattle.rstar_vectors.proofs.neighbours.in_order.Goals as goal

pub loop-found-init : goal.loop-found-init
loop-found-init g c = record {
  searching = c.nearest_neighbor_iter-neighbors.ensures.searching;
  given = none-taken (GivesElement g.T.Envelope.Envelope.boxes g.T.RTreeObject.object g.T.PointDistance.distances g.T.Envelope.Point.Point.DIMENSIONS g.T.Envelope.Point.Point.coord g.T.Envelope.Point.Scalar.Ord.cmp g.T.Envelope.Point.Scalar.Number.value)
      _ c.nearest_neighbor_iter-neighbors.result c.new-all.ensures.items;
}

pub loop-found-preserved : goal.loop-found-preserved
loop-found-preserved g c = record {
  searching = c.in-Some.ensures.steps.1;
  given = one-more-taken (GivesElement g.T.Envelope.Envelope.boxes g.T.RTreeObject.object g.T.PointDistance.distances g.T.Envelope.Point.Point.DIMENSIONS g.T.Envelope.Point.Point.coord g.T.Envelope.Point.Scalar.Ord.cmp g.T.Envelope.Point.Scalar.Number.value)
      c.loop-found.all.items _ _ c.nearest_neighbor_iter-neighbors.result c.loop-found.neighbors c.next.new.self c.in_ok-push.ensures.items c.loop-found.invariant.given (rw c.in_ok-item.was at c.in-Some.ensures.steps);
}

pub returns : goal.returns
returns g c =
    let end = neighbors_end g.T.Envelope.Envelope.boxes g.T.RTreeObject.object g.T.PointDistance.distances g.T.Envelope.Point.Point.DIMENSIONS g.T.Envelope.Point.Point.coord g.T.Envelope.Point.Scalar.Ord.cmp g.T.Envelope.Point.Scalar.Number.value
    _ _ _ c.nearest_neighbor_iter-neighbors.ensures.begun _ c.loop-found.neighbors c.next.new.self c.loop-found.invariant.given c.in_default.ensures.steps in
    record { all = end.0; order = end.1; opened = c.opened.ensures ∙ end.2 }
