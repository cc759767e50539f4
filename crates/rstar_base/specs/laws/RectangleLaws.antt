-- A rectangle keeps the laws of elements, and the corners of a box are those of one rectangle.
use Rattle.std.specs.Prelude.{◌≡◌, ◌<◌, ◌<ℤ◌, ◌≤ℤ◌, ◌&&◌, ℕ, ℤ, true, false, zero, suc, pos, List, map, IsTrue, int_le, slice_index_or}
use Rattle.std.specs.Int.{int_max}
use Rattle.std.proofs.Common.{refl, arith, sym, ◌∙◌, inl, inr}
use Rattle.std.proofs.lemmas.Bool.{cases_Bool}
use Rattle.std.proofs.lemmas.Int.{ints}
use Rattle.rstar_base.specs.Points.{IsPoint, table}
use Rattle.rstar_base.specs.laws.PointLemmas.{all_below-each, table-get, table-firsts, table-seconds}
use Rattle.rstar_base.specs.Boxes.{between_corners, box_of_corners, is_upright, is_empty_box, empty_box, IsBox}
use Rattle.rstar_base.specs.laws.BoxEq.{parts-same}
use Rattle.rstar_base.specs.laws.BoxLaws.{corners-empty, corners-same, corners-upright, min_max}
use Rattle.rstar_base.specs.BoxData.{box_data}
use Rattle.rstar_base.specs.BoxElements.{box_objects, box_distances}
use Rattle.rstar_base.specs.laws.BoxElementLaws.{box_element_laws}
use Rattle.rstar_base.specs.laws.CarrierLaws.{carried_laws}
use Rattle.rstar_base.specs.Elements.{DistanceLaws}
use Rattle.rstar_base.specs.Rectangles.{are_empty_corners, box_or_empty, rectangle_objects, rectangle_distances}

pub rectangle_laws : {R : Type 0} (low high : ℤ) (n : ℕ) (lower upper : R → ℕ → ℤ)
    → DistanceLaws (IsPoint low high n) (box_data low high n) (rectangle_objects low high n lower upper)
    (rectangle_distances low high n lower upper)
rectangle_laws low high n lower upper =
    carried_laws (box_data low high n) (box_objects low high n) (box_distances high)
    (λ r. box_or_empty low high n (lower r) (upper r)) (box_element_laws low high n)

-- a box is between its corners
corners-of : (n : ℕ) (l u : ℕ → ℤ) (b : List (ℤ × ℤ)) → table n l ≡ map (λ (x : ℤ × ℤ). x.0) b
    → table n u ≡ map (λ (x : ℤ × ℤ). x.1) b → between_corners n l u ≡ b
corners-of n l u b k m = parts-same _ b (table-firsts n l u ∙ k) (table-seconds n l u ∙ m)

empty-corners : (low high : ℤ) (n : ℕ) (l u : ℕ → ℤ) → between_corners n l u ≡ empty_box low high n
    → are_empty_corners low high n l u ≡ true
empty-corners low high zero l u e = refl
empty-corners low high (suc n) l u e =
    let ih = empty-corners low high n (λ i. l (suc i)) (λ i. u (suc i)) in grind (arith, ints)

-- corners of the empty box are not upright, but where there is no axis
both_ways : (n : ℕ) (low high : ℤ) (l u : ℕ → ℤ) → low <ℤ pos 0 → pos 0 <ℤ high
    → IsTrue (are_empty_corners low high n l u) → IsTrue (is_upright n l u) → empty_box low high n ≡ between_corners n l u
both_ways zero low high l u h k e f = refl
both_ways (suc n) low high l u h k e f = absurd (grind (arith, ints))

max_above : (a b : ℤ) → int_le a b ≡ true → int_max a b ≡ b
max_above a b h = grind (arith, ints)

module _ (low high : ℤ) (n : ℕ) (l u : ℕ → ℤ) where
  pub box_or_empty-filled : are_empty_corners low high n l u ≡ false
      → box_or_empty low high n l u ≡ between_corners n l (λ i. int_max (l i) (u i))
  box_or_empty-filled h = rw h

  pub box_or_empty-empty : are_empty_corners low high n l u ≡ true
      → box_or_empty low high n l u ≡ empty_box low high n
  box_or_empty-empty h = rw h

  pub box_or_empty-upright : low <ℤ pos 0 → pos 0 <ℤ high → is_upright n l u ≡ true
      → box_or_empty low high n l u ≡ between_corners n l u
  box_or_empty-upright p q h = elim (cases_Bool (are_empty_corners low high n l u)) [
    | inl e ↦ box_or_empty-empty e ∙ both_ways n low high l u p q e h
    | inr e ↦ box_or_empty-filled e ∙ corners-same n l _ l u (λ i _. refl)
        (λ i k. max_above (l i) (u i) (all_below-each n (λ i. int_le (l i) (u i)) i k h))
  ]

  -- the rectangle with the corners of a box has that box
  pub box_or_empty-same : low <ℤ pos 0 → pos 0 <ℤ high → (b : List (ℤ × ℤ)) → IsBox low high n b
      → table n l ≡ map (λ (x : ℤ × ℤ). x.0) b → table n u ≡ map (λ (x : ℤ × ℤ). x.1) b
      → box_or_empty low high n l u ≡ b
  box_or_empty-same p q b h k m =
      let same = corners-of n l u b k m in
      elim (cases_Bool (is_upright n l u)) [
        | inl e ↦ box_or_empty-upright p q e ∙ same
        | inr e ↦ let none = same ∙ h.shape (rw (← same, ← corners-empty n l u, e) refl) in
            box_or_empty-empty (empty-corners low high n l u none) ∙ sym none ∙ same
      ]

  -- the key of such a box is the coordinate of the first corner
  pub box_or_empty-key : (axis : ℕ) → axis < n → (d : ℤ × ℤ) → l axis ≤ℤ high
      → (slice_index_or (box_or_empty low high n l u) axis d).0 ≡ l axis
  box_or_empty-key axis k d h = elim (cases_Bool (are_empty_corners low high n l u)) [
    | inl e ↦ rw (e, table-get n (λ _. (high, low)) axis d k)
        (let a = all_below-each n (λ i. int_le high (l i) && int_le (u i) low) axis k e in grind (arith, ints))
    | inr e ↦ rw (e, table-get n (λ i. (l i, int_max (l i) (u i))) axis d k) refl
  ]

-- the box of two points is not empty
pub hull-filled : (n : ℕ) (p q : ℕ → ℤ) → is_empty_box (box_of_corners n p q) ≡ false
hull-filled n p q = corners-upright n _ _ (λ i _. min_max _ _ (p i) (q i) refl refl)
