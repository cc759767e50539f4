use Rattle.std.proofs.Common.{◌∙◌, ◌*◌, ap, pos, min, unsigned_abs}
use Rattle.rstar_base.specs.Gaps.{gap}
use Rattle.rstar_base.proofs.GapSums.{corners-gaps}
use Rattle.rstar_base.proofs.aabb.gaps.squared_gaps.Goals as goal

pub returns : goal.returns
returns g c =
    let k = g.P.Point.coord in
    let l = k c.args.lower.now in
    let u = k c.args.upper.now in
    let l' = k c.args.other_lower.now in
    let u' = k c.args.other_upper.now in
    c.clamped_sum.ensures (λ i. gap (l i, u i) (l' i, u' i) * gap (l i, u i) (l' i, u' i)) (λ i y h s. s)
    ∙ ap (λ s. pos (min s (unsigned_abs g.P.Scalar.Bounded.high))) (corners-gaps g.P.Point.DIMENSIONS l u l' u')
