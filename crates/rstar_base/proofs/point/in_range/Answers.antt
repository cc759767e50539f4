use Rattle.std.proofs.Common.{subst}
use Rattle.rstar_base.specs.Scalars.{InRange}
use Rattle.rstar_base.proofs.Ranges.{table-point}
use Rattle.rstar_base.proofs.point.in_range.Goals as goal

pub returns : goal.returns
returns g c =
    table-point g.P.Scalar.Bounded.low g.P.Scalar.Bounded.high g.P.Point.DIMENSIONS (g.P.Point.coord c.args.p.now)
    (λ i l. subst (InRange g.P.Scalar.Bounded.low g.P.Scalar.Bounded.high) (c.copied_point-copy.ensures.coords i l) (c.copied_point-copy.ensures.range i l))
