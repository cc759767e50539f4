use Rattle.std.proofs.Common.{refl, ◌≡◌, ◌≤◌, ℕ, ℤ, true, pos, int_le, arith}
use Rattle.std.proofs.lemmas.Int.{ints}
use Rattle.rstar_base.proofs.algorithm.envelope_selection.SelectWithinDistanceOfEnvelope.new.Goals as goal

-- what is no farther, seen from the other side, than something within a limit is within it
nearer_within : (a b c d : ℕ) (limit : ℤ) → a ≡ b → b ≤ c → c ≡ d → int_le (pos d) limit ≡ true → int_le (pos a) limit ≡ true
nearer_within a b c d limit turned nearer back within = grind (arith, ints)

pub returns : goal.returns
returns g c = record {
  accepts = refl;
  selects = refl;
  lawful = λ t e value ok selected full.
      let laws = g.met.T.Envelope.Envelope.envelope_laws in
      let gaps = g.met.T.Envelope.EnvelopeDistance.gap_laws in
      let own = c.is_empty-known.ensures.own in
      let box = g.met.T.RTreeObject.object_law t value in
      nearer_within _ _ _ _ _ (gaps.symmetric _ _ own (laws.merge_value _ e box ok))
      (gaps.merge_nearer _ e _ box ok own full) (gaps.symmetric _ _ box own) selected;
}
