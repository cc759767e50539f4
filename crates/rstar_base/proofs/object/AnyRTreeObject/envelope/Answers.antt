use Rattle.std.proofs.Common.{◌∙◌, ℕ, subst, ◌<◌, refl}
use Rattle.rstar_base.specs.Scalars.{InRange}
use Rattle.rstar_base.specs.laws.BoxLaws.{corners-same, corners-box, le_same}
use Rattle.rstar_base.proofs.object.AnyRTreeObject.envelope.Goals as goal

pub returns-clause-value : goal.returns-clause-value
returns-clause-value g c = c.from_point.ensures ∙ corners-same _ _ _ _ _ c.copied_point.ensures.coords c.copied_point.ensures.coords

pub returns-clause-own : goal.returns-clause-own
returns-clause-own g c =
    let k = g.P.Point.coord c.args.self.now in
    let low = g.P.Scalar.Bounded.low in
    let high = g.P.Scalar.Bounded.high in
    let n = g.P.Point.DIMENSIONS in
    let r : (i : ℕ) → i < n → InRange low high (k i) = λ i l. subst (InRange low high) (c.copied_point.ensures.coords i l) (c.copied_point.ensures.range i l) in
    corners-box low high n k k r r (λ i l. le_same (k i) (k i) (k i) refl refl)
