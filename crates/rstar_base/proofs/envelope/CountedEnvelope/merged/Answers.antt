use Rattle.rstar_base.specs.BoxData.{box_data}
use Rattle.rstar_base.specs.laws.BoxEnvelopes.{box_laws}
use Rattle.rstar_base.specs.laws.CountedLaws.{merge_counted}
use Rattle.rstar_base.proofs.envelope.CountedEnvelope.merged.Goals as goal

pub invariant_of-result : goal.invariant_of-result
invariant_of-result g c =
    let low = g.P.Scalar.Bounded.low in
    let high = g.P.Scalar.Bounded.high in
    let n = g.P.Point.DIMENSIONS in
    rw (c.merged.ensures.merged, c.saturating_add.ensures)
    (merge_counted (box_data low high n)
    (box_laws low high n g.met.P.Scalar.RTreeNum.low_law g.met.P.Scalar.RTreeNum.high_law) _ _ _ _ c.self.invariant
    c.other.invariant)
