use Rattle.std.specs.Prelude.{int_le}
use Rattle.rstar_base.specs.laws.BoxLaws.{corners-same, corners-box}
use Rattle.rstar_base.specs.laws.PointLemmas.{all_below-each}
use Rattle.rstar_base.proofs.Corners.{le_along}
use Rattle.rstar_base.proofs.aabb.AABB.from_bounds.Goals as goal

pub invariant_of-result : goal.invariant_of-result
invariant_of-result g c =
    let k = g.P.Point.coord in (
      c.copied_point.ensures.whole,
      c.copied_point-2.ensures.whole,
      corners-box _ _ _ _ _ c.copied_point.ensures.range c.copied_point-2.ensures.range
          (λ i l. le_along _ _ (k c.args.lower i) (k c.args.upper i) (c.copied_point.ensures.coords i l) (c.copied_point-2.ensures.coords i l)
          (all_below-each g.P.Point.DIMENSIONS (λ j. int_le (k c.args.lower j) (k c.args.upper j)) i l c.requires)),
    )

pub returns : goal.returns
returns g c = corners-same _ _ _ _ _ c.copied_point.ensures.coords c.copied_point-2.ensures.coords
