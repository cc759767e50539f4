use Rattle.std.specs.Prelude.{◌&&◌, int_le}
use Rattle.std.specs.Int.{int_max}
use Rattle.std.proofs.Common.{◌≡◌, ◌<◌, ℕ, ℤ, true, arith, refl, sym, ◌∙◌}
use Rattle.std.proofs.lemmas.Int.{ints}
use Rattle.rstar_base.specs.Points.{all_below}
use Rattle.rstar_base.specs.Rectangles.{are_empty_corners}
use Rattle.rstar_base.specs.laws.BoxLaws.{corners-same, corners-box}
use Rattle.rstar_base.specs.laws.PointLemmas.{all_below-same}
use Rattle.rstar_base.specs.laws.RectangleLaws.{box_or_empty-filled, box_or_empty-empty}
use Rattle.rstar_base.proofs.aabb.AABB.of_any_corners.Goals as goal

below_max : (a b x y : ℤ) → a ≡ x → b ≡ int_max x y → int_le a b ≡ true
below_max a b x y h k = grind (arith, ints)

tested : (low high : ℤ) (n : ℕ) (h w l u : ℕ → ℤ) → ((i : ℕ) → i < n → h i ≡ high) → ((i : ℕ) → i < n → w i ≡ low)
    → all_below n (λ i. int_le (h i) (l i) && int_le (u i) (w i)) ≡ are_empty_corners low high n l u
tested low high n h w l u p q = all_below-same n _ _ (λ i k. rw (p i k, q i k) refl)

pub invariant_of-result : goal.invariant_of-result
invariant_of-result g c =
    let k = g.P.Point.coord in (
      c.copied_point.ensures.whole,
      c.greatest_point.ensures.whole,
      corners-box _ _ _ _ _ c.copied_point.ensures.range c.greatest_point.ensures.range
          (λ i l. below_max _ _ (k c.args.lower.now i) (k c.args.upper.now i) (c.copied_point.ensures.coords i l) (c.greatest_point.ensures.coords i l)),
    )

pub returns : goal.returns
returns g c =
    let k = g.P.Point.coord in
    let e = g.met.P.Scalar.Integral.exact_law in
    let test = tested g.P.Scalar.Bounded.low g.P.Scalar.Bounded.high g.P.Point.DIMENSIONS (k c.filled-highest.result) (k c.filled-lowest.result) (k c.args.lower.now) (k c.args.upper.now)
    (λ i l. c.filled-highest.ensures.coords i l ∙ c.max_value.ensures.value e) (λ i l. c.filled-lowest.ensures.coords i l ∙ c.min_value.ensures.value e) in
    corners-same _ _ _ _ _ c.copied_point.ensures.coords c.greatest_point.ensures.coords
    ∙ sym (box_or_empty-filled g.P.Scalar.Bounded.low g.P.Scalar.Bounded.high g.P.Point.DIMENSIONS (k c.args.lower.now) (k c.args.upper.now)
    (sym test ∙ sym c.bound.ensures ∙ c.if-bound.false))

pub returns-then-bound : goal.returns-then-bound
returns-then-bound g c =
    let k = g.P.Point.coord in
    let e = g.met.P.Scalar.Integral.exact_law in
    let test = tested g.P.Scalar.Bounded.low g.P.Scalar.Bounded.high g.P.Point.DIMENSIONS (k c.filled-highest.result) (k c.filled-lowest.result) (k c.args.lower.now) (k c.args.upper.now)
    (λ i l. c.filled-highest.ensures.coords i l ∙ c.max_value.ensures.value e) (λ i l. c.filled-lowest.ensures.coords i l ∙ c.min_value.ensures.value e) in
    c.new_empty.ensures
    ∙ sym (box_or_empty-empty g.P.Scalar.Bounded.low g.P.Scalar.Bounded.high g.P.Point.DIMENSIONS (k c.args.lower.now) (k c.args.upper.now)
    (sym test ∙ sym c.bound.ensures ∙ c.if-bound.true))
