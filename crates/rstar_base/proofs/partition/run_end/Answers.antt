use mathlib.Core.Bool.{Bool, true, false, not, beq}
use Rattle.std.proofs.Common.{◌≡◌, ◌∙◌, ◌≤ℤ◌, arith, sym, refl, inl, inr, subst, slice_index_or}
use Rattle.std.proofs.Math.Nat.{eq-or-lt_of_le}
use Rattle.rstar_base.proofs.partition.run_end.Goals as goal

same_bools : (x y : Bool) → not (beq x y) ≡ false → x ≡ y
same_bools true true e = refl
same_bools true false e = e
same_bools false true e = sym e
same_bools false false e = refl

pub loop-at-preserved : goal.loop-at-preserved
loop-at-preserved g c =
    let same = same_bools _ _ c.if-stands_first-first.false in
    let key = λ (i : _) (d : g.row.T.Denot). g.T.Envelope.Envelope.boxes.axis_key (g.T.RTreeObject.object.box_of (slice_index_or c.args.list.now i d)) c.args.axis in
    let pivot = g.T.Envelope.Point.Scalar.Number.value c.args.pivot in
    record {
      order = omega (arith, c.loop-at.invariant.order);
      within = omega (arith, c.loop-at-test.true);
      at_most = λ f i d q p. elim (eq-or-lt_of_le p) [
        | inl e ↦ subst (λ k. key k d ≤ℤ pivot) (omega (arith, e)) (subst (λ z. z ≤ℤ pivot) (c.key_at.ensures d) (c.is_first-stands_first.ensures.first (same ∙ f)))
        | inr less ↦ c.loop-at.invariant.at_most f i d q (omega (arith, less))
      ];
      at_least = λ f i d q p. elim (eq-or-lt_of_le p) [
        | inl e ↦ subst (λ k. pivot ≤ℤ key k d) (omega (arith, e)) (subst (λ z. pivot ≤ℤ z) (c.key_at.ensures d) (c.is_first-stands_first.ensures.other (same ∙ f)))
        | inr less ↦ c.loop-at.invariant.at_least f i d q (omega (arith, less))
      ];
    }
