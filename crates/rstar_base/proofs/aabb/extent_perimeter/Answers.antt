use Rattle.rstar_base.specs.Measures.{extent}
use Rattle.rstar_base.proofs.aabb.extent_perimeter.Goals as goal

pub returns : goal.returns
returns g c =
    let k = g.P.Point.coord in
    c.clamped_sum.ensures (λ i. extent (k c.args.lower.now i, k c.args.upper.now i)) (λ i y l s. s)
