use Rattle.std.proofs.Common.{ℕ}
use Rattle.rstar_base.specs.Distances.{nearest_on_axis}
use Rattle.rstar_base.proofs.aabb.nearest_between.Goals as goal

pub returns : goal.returns
returns g c =
    let k = g.P.Point.coord in
    c.generated.ensures.coords (λ (i : ℕ). nearest_on_axis (k c.args.lower.now i, k c.args.upper.now i) (k c.args.point.now i)) (λ i y l s. s)
