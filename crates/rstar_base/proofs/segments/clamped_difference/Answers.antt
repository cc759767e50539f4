use Rattle.std.proofs.Common.{◌-ℤ◌}
use Rattle.num_traits.specs.Laws.{between}
use Rattle.rstar_base.proofs.segments.clamped_difference.Goals as goal

pub returns : goal.returns
returns g c =
    c.generated.ensures.coords (λ i. between (g.P.Point.coord c.args.to.now i -ℤ g.P.Point.coord c.args.from.now i) g.P.Scalar.Bounded.low g.P.Scalar.Bounded.high) (λ i y l s. s)
