use Rattle.std.proofs.Common.{refl, ◌≡◌, ◌≤◌, ℕ, ℤ, true, pos, int_le, arith}
use Rattle.std.proofs.lemmas.Int.{ints}
use Rattle.rstar_base.proofs.algorithm.selection_functions.SelectWithinDistanceFunction.new.Goals as goal

-- what is nearer than something within a limit is within it
nearer_within : (a b : ℕ) (limit : ℤ) → a ≤ b → int_le (pos b) limit ≡ true → int_le (pos a) limit ≡ true
nearer_within a b limit nearer within = grind (arith, ints)

pub returns : goal.returns
returns g c = record {
  accepts = refl;
  selects = refl;
  lawful = λ t e value ok selected full.
      let laws = g.met.T.Envelope.Envelope.envelope_laws in
      let box = g.met.T.RTreeObject.object_law t value in
      let near = g.met.T.PointDistance.distance_laws.near t _ c.known.ensures.range value full in
      let merged = laws.merge_distance _ e _ c.known.ensures.range box ok full in
      nearer_within _ _ _ merged (nearer_within _ _ _ near selected);
}
