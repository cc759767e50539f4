use Rattle.std.proofs.Common.{◌≤ℤ◌, ap, pos, subst, sym, ◌∙◌}
use Rattle.rstar_base.specs.laws.RectangleLaws.{box_or_empty-key}
use Rattle.rstar_base.proofs.primitives.RectangleRTreeObject.axis_key.Goals as goal

pub returns : goal.returns
returns g c =
    let k = g.P.Point.coord in
    let high = g.P.Scalar.Bounded.high in
    ap g.P.Scalar.Number.value c.ord.ensures.same
    ∙ c.nth.ensures.value
    ∙ sym (box_or_empty-key g.P.Scalar.Bounded.low high g.P.Point.DIMENSIONS (k c.args.self.now.lower) (k c.args.self.now.upper) c.args.axis c.requires (pos 0, pos 0)
    (subst (λ z. z ≤ℤ high) c.nth.ensures.value c.ord.ensures.range.below))
