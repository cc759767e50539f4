use Rattle.std.proofs.Common.{◌∙◌, sym, ◌-ℤ◌, ◌≡◌, ℕ, true}
use Rattle.rstar_base.specs.Boxes.{in_range}
use Rattle.rstar_base.specs.Points.{all_below}
use Rattle.rstar_base.specs.laws.PointLemmas.{all_below-each}
use Rattle.rstar_base.proofs.SegmentLemmas.{exact}
use Rattle.rstar_base.proofs.segments.checked_difference.Goals as goal

pub returns-then-fits : goal.returns-then-fits
returns-then-fits g c =
    let low = g.P.Scalar.Bounded.low in
    let high = g.P.Scalar.Bounded.high in
    let t = λ (i : ℕ). in_range low high (g.P.Point.coord c.args.to.now i -ℤ g.P.Point.coord c.args.from.now i) in
    let all : all_below g.P.Point.DIMENSIONS t ≡ true = sym (c.every_axis-fits.ensures t (λ i b l s. s)) ∙ c.if-fits.true in
    (all, λ i l. c.clamped_difference.ensures i l ∙ exact low high _ (all_below-each g.P.Point.DIMENSIONS t i l all))
