use Rattle.std.proofs.Common.{refl}
use Rattle.rstar_base.proofs.algorithm.selection_functions.SelectAtPointFunction.new.Goals as goal

pub returns : goal.returns
returns g c = record {
  accepts = refl;
  selects = refl;
  lawful = λ t e value ok selected full.
      let laws = g.met.T.Envelope.Envelope.envelope_laws in
      let box = g.met.T.RTreeObject.object_law t value in
      let inside = g.met.T.PointDistance.distance_laws.contained t _ c.known.ensures.range value selected in
      laws.merge_contains_point _ e _ c.known.ensures.range box ok inside;
}
