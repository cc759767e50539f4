use Rattle.std.proofs.Common.{◌∙◌, ap, pos}
use Rattle.rstar_base.proofs.SegmentLemmas.{distance-at}
use Rattle.rstar_base.proofs.primitives.LinePointDistance.distance_2.Goals as goal

pub returns : goal.returns
returns g c =
    let k = g.P.Point.coord in
    c.distance_between.ensures ∙ ap pos (distance-at g.P.Scalar.Bounded.low g.P.Scalar.Bounded.high g.P.Point.DIMENSIONS (k c.args.self.now.from) (k c.args.self.now.to) (k c.args.point.now) (k c.nearest_point.result) c.nearest_point.ensures)
