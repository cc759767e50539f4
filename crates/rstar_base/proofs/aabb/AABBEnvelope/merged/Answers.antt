use Rattle.std.proofs.Common.{subst, sym, List, ℤ}
use Rattle.rstar_base.specs.Boxes.{IsBox}
use Rattle.rstar_base.specs.laws.BoxLaws.{corners-merge, merge-box}
use Rattle.rstar_base.proofs.aabb.AABBEnvelope.merged.Goals as goal

pub invariant_of-result : goal.invariant_of-result
invariant_of-result g c =
    let k = g.P.Point.coord in
    let same = corners-merge g.P.Point.DIMENSIONS (k c.self.inside.lower) (k c.self.inside.upper) (k c.other.inside.lower) (k c.other.inside.upper) _ _
    c.least_point.ensures.coords c.greatest_point.ensures.coords in (
      c.least_point.ensures.whole,
      c.greatest_point.ensures.whole,
      subst (λ (b : List (ℤ × ℤ)). IsBox g.P.Scalar.Bounded.low g.P.Scalar.Bounded.high g.P.Point.DIMENSIONS b) (sym same)
          (merge-box _ _ _ _ _ c.self.invariant.2 c.other.invariant.2),
    )

pub returns-clause-merged : goal.returns-clause-merged
returns-clause-merged g c =
    let k = g.P.Point.coord in
    rw (← c.self.view_is, ← c.other.view_is)
    (corners-merge g.P.Point.DIMENSIONS (k c.self.inside.lower) (k c.self.inside.upper) (k c.other.inside.lower) (k c.other.inside.upper) _ _
    c.least_point.ensures.coords c.greatest_point.ensures.coords)
