use Rattle.std.proofs.Common.{◌∙◌}
use Rattle.rstar_base.proofs.Corners.{corners-hull}
use Rattle.rstar_base.proofs.SegmentLemmas.{corners_of-box, still_ranged}
use Rattle.rstar_base.proofs.primitives.LineRTreeObject.envelope.Goals as goal

pub returns-clause-value : goal.returns-clause-value
returns-clause-value g c = c.from_corners.ensures ∙ corners-hull _ _ _ _ _ c.copied_point.ensures.coords c.copied_point-2.ensures.coords

pub returns-clause-own : goal.returns-clause-own
returns-clause-own g c =
    corners_of-box _ _ _ _ _ (still_ranged _ _ _ _ _ c.copied_point.ensures.coords c.copied_point.ensures.range) (still_ranged _ _ _ _ _ c.copied_point-2.ensures.coords c.copied_point-2.ensures.range)
