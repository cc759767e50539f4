use Rattle.std.proofs.Common.{refl}
use Rattle.rstar_base.proofs.algorithm.selection_functions.SelectInEnvelopeFunction.new.Goals as goal

pub returns : goal.returns
returns g c = record {
  accepts = refl;
  selects = refl;
  lawful = λ t e value ok selected full.
      let laws = g.met.T.Envelope.Envelope.envelope_laws in
      let own = c.is_empty-known.ensures.own in
      let box = g.met.T.RTreeObject.object_law t value in
      let meets = laws.contains_intersects _ _ own box selected full in
      let merged = laws.merge_intersects _ e _ box ok own (laws.intersects_sym _ _ own box meets) in
      laws.intersects_sym _ _ (laws.merge_value _ _ box ok) own merged;
}
