use Rattle.std.proofs.Common.{subst, sym, ◌∙◌, List, ℤ}
use Rattle.rstar_base.specs.Boxes.{IsBox}
use Rattle.rstar_base.specs.laws.BoxLaws.{corners-empty_box, empty-box, low_le_high}
use Rattle.rstar_base.proofs.aabb.AABBEnvelope.new_empty.Goals as goal

pub invariant_of-result : goal.invariant_of-result
invariant_of-result g c =
    let e = g.met.P.Scalar.Integral.exact_law in
    let same = corners-empty_box g.P.Scalar.Bounded.low g.P.Scalar.Bounded.high g.P.Point.DIMENSIONS _ _
    (λ i l. c.filled.ensures.coords i l ∙ c.max_value.ensures.value e) (λ i l. c.filled-2.ensures.coords i l ∙ c.min_value.ensures.value e) in (
      c.filled.ensures.whole,
      c.filled-2.ensures.whole,
      subst (λ (b : List (ℤ × ℤ)). IsBox g.P.Scalar.Bounded.low g.P.Scalar.Bounded.high g.P.Point.DIMENSIONS b) (sym same)
          (empty-box g.P.Scalar.Bounded.low g.P.Scalar.Bounded.high g.P.Point.DIMENSIONS
          (low_le_high _ _ g.met.P.Scalar.RTreeNum.low_law g.met.P.Scalar.RTreeNum.high_law)),
    )

pub returns : goal.returns
returns g c =
    let e = g.met.P.Scalar.Integral.exact_law in
    corners-empty_box g.P.Scalar.Bounded.low g.P.Scalar.Bounded.high g.P.Point.DIMENSIONS _ _
    (λ i l. c.filled.ensures.coords i l ∙ c.max_value.ensures.value e) (λ i l. c.filled-2.ensures.coords i l ∙ c.min_value.ensures.value e)
