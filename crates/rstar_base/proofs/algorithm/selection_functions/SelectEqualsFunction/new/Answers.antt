use Rattle.std.proofs.Common.{refl, ◌≡◌, true, subst}
use Rattle.rstar_base.proofs.algorithm.selection_functions.SelectEqualsFunction.new.Goals as goal

pub returns : goal.returns
returns g c = record {
  accepts = refl;
  selects = refl;
  lawful = λ t e value ok selected full.
      let v = g.T.Envelope.Envelope.boxes in
      let o = g.T.RTreeObject.object in
      let laws = g.met.T.Envelope.Envelope.envelope_laws in
      let box = g.met.T.RTreeObject.object_law t value in
      let same : o.box_of t ≡ o.box_of c.args.object_to_remove.now = g.met.T.EqualEnvelopes.equal_law t _ value c.envelope-known.ensures.own selected in
      subst (λ b. v.contains (v.merge (o.box_of t) e) b ≡ true) same (laws.merge_contains _ e box ok);
}
