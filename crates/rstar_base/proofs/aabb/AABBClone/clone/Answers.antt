use Rattle.std.proofs.Common.{subst, sym, ◌∙◌, List, ℤ}
use Rattle.rstar_base.specs.Boxes.{IsBox}
use Rattle.rstar_base.specs.laws.BoxLaws.{corners-same}
use Rattle.rstar_base.proofs.aabb.AABBClone.clone.Goals as goal

pub invariant_of-result : goal.invariant_of-result
invariant_of-result g c =
    let same = corners-same g.P.Point.DIMENSIONS _ _ _ _ c.copied_point.ensures.coords c.copied_point-2.ensures.coords in (
      c.copied_point.ensures.whole,
      c.copied_point-2.ensures.whole,
      subst (λ (b : List (ℤ × ℤ)). IsBox g.P.Scalar.Bounded.low g.P.Scalar.Bounded.high g.P.Point.DIMENSIONS b) (sym same) c.self.invariant.2,
    )

pub returns : goal.returns
returns g c = record { cases = corners-same g.P.Point.DIMENSIONS _ _ _ _ c.copied_point.ensures.coords c.copied_point-2.ensures.coords ∙ c.self.view_is }
