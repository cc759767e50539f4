use Rattle.std.specs.Prelude.{int_le}
use Rattle.std.proofs.Common.{sym, ◌∙◌}
use Rattle.rstar_base.specs.laws.BoxLaws.{corners-same, corners-box}
use Rattle.rstar_base.specs.laws.RectangleLaws.{box_or_empty-upright}
use Rattle.rstar_base.specs.laws.PointLemmas.{all_below-each}
use Rattle.rstar_base.proofs.Corners.{le_along}
use Rattle.rstar_base.proofs.aabb.AABB.between.Goals as goal

pub invariant_of-result : goal.invariant_of-result
invariant_of-result g c =
    let k = g.P.Point.coord in (
      c.copied_point.ensures.whole,
      c.copied_point-then-upright.ensures.whole,
      corners-box _ _ _ _ _ c.copied_point.ensures.range c.copied_point-then-upright.ensures.range
          (λ i l. le_along _ _ (k c.args.lower.now i) (k c.args.upper.now i) (c.copied_point.ensures.coords i l) (c.copied_point-then-upright.ensures.coords i l)
          (all_below-each g.P.Point.DIMENSIONS (λ j. int_le (k c.args.lower.now j) (k c.args.upper.now j)) i l (sym c.upright.ensures ∙ c.if-upright.true))),
    )

pub returns-then-upright : goal.returns-then-upright
returns-then-upright g c =
    corners-same _ _ _ _ _ c.copied_point.ensures.coords c.copied_point-then-upright.ensures.coords
    ∙ sym (box_or_empty-upright g.P.Scalar.Bounded.low g.P.Scalar.Bounded.high g.P.Point.DIMENSIONS (g.P.Point.coord c.args.lower.now) (g.P.Point.coord c.args.upper.now)
    g.met.P.Scalar.RTreeNum.low_law g.met.P.Scalar.RTreeNum.high_law (sym c.upright.ensures ∙ c.if-upright.true))
