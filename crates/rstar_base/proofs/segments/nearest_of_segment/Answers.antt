use Rattle.std.proofs.Common.{◌∙◌}
use Rattle.rstar_base.proofs.SegmentLemmas.{nearest-inside, nearest-end}
use Rattle.rstar_base.proofs.segments.nearest_of_segment.Goals as goal

pub returns-in-Some : goal.returns-in-Some
returns-in-Some g c = λ i l.
    let k = g.P.Point.coord in
    c.nearer.ensures i l ∙ nearest-inside _ _ _ _ _ _ (k c.nearer-end.result) (k c.in-Some.inside) c.in-Some.ensures.0 c.nearer-end.ensures c.in-Some.ensures.1 i l

pub returns-in-None : goal.returns-in-None
returns-in-None g c = λ i l. nearest-end _ _ _ _ _ _ _ i c.in-None.ensures (c.nearer-end.ensures i l)
