use Rattle.rstar_base.specs.laws.BoxLaws.{corners-same, corners-box, le_same}
use Rattle.rstar_base.proofs.aabb.AABB.from_point.Goals as goal

pub invariant_of-result : goal.invariant_of-result
invariant_of-result g c = (
  c.copied_point.ensures.whole,
  c.copied_point-2.ensures.whole,
  corners-box _ _ _ _ _ c.copied_point.ensures.range c.copied_point-2.ensures.range
      (λ i l. le_same _ _ _ (c.copied_point.ensures.coords i l) (c.copied_point-2.ensures.coords i l)),
)

pub returns : goal.returns
returns g c = corners-same _ _ _ _ _ c.copied_point.ensures.coords c.copied_point-2.ensures.coords
