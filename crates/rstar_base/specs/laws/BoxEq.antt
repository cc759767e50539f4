-- Equality of boxes is equality of their intervals.
use Rattle.std.specs.Prelude.{◌≡◌, ◌&&◌, ◌↔◌, ℕ, ℤ, Bool, true, List, [], ◌∷◌, map, IsTrue}
use Rattle.std.specs.List.{All}
use Rattle.std.proofs.Common.{refl, ap, arith, sym, ◌∙◌}
use Rattle.std.proofs.lemmas.Int.{ints}
use Rattle.std.proofs.lemmas.List.{length-map}
use Rattle.std.proofs.lemmas.List.Elements.{All-nil, All-cons}
use Rattle.rstar_base.specs.Points.{table, IsPoint}
use Rattle.rstar_base.specs.laws.PointLemmas.{and_parts, and_both}
use Rattle.rstar_base.specs.Scalars.{InRange}
use Rattle.rstar_base.specs.Boxes.{all_in_range, IsBox}

-- the bounds of a box are in the range
bounds-ranged : (low high : ℤ) (b : List (ℤ × ℤ)) → all_in_range low high b ≡ true
    → All (λ z. InRange low high z) (map (λ (x : ℤ × ℤ). x.0) b)
    × All (λ z. InRange low high z) (map (λ (x : ℤ × ℤ). x.1) b)
bounds-ranged low high [] h = (All-nil (InRange low high), All-nil (InRange low high))
bounds-ranged low high (x ∷ xs) h =
    let rest : all_in_range low high xs ≡ true = grind arith in
    let r = bounds-ranged low high xs rest in
    let P = InRange low high in
    (All-cons P x.0 _ (grind (arith, ints)) r.0, All-cons P x.1 _ (grind (arith, ints)) r.1)

-- a box is its lower and its upper bounds
pub parts-same : (a b : List (ℤ × ℤ)) → map (λ (x : ℤ × ℤ). x.0) a ≡ map (λ (x : ℤ × ℤ). x.0) b
    → map (λ (x : ℤ × ℤ). x.1) a ≡ map (λ (x : ℤ × ℤ). x.1) b → a ≡ b
parts-same [] [] h k = refl
parts-same (x ∷ xs) (y ∷ ys) h k = let ih = parts-same xs ys in grind arith
parts-same a b h k = cc

module _ {A : Type 0} (low high : ℤ) (n : ℕ) (coord : A → ℕ → ℤ) (of : List ℤ → A) (eq : A → A → Bool)
    (forth : (zs : List ℤ) → IsPoint low high n zs → table n (coord (of zs)) ≡ zs)
    (law : (p q : A) → of (table n (coord p)) ≡ p → of (table n (coord q)) ≡ q
    → IsTrue (eq p q) ↔ (table n (coord p) ≡ table n (coord q))) where
  point-eq : (zs ws : List ℤ) → IsPoint low high n zs → IsPoint low high n ws → IsTrue (eq (of zs) (of ws)) ↔ (zs ≡ ws)
  point-eq zs ws h k =
      let f : table n (coord (of zs)) ≡ zs = forth zs h in
      let g : table n (coord (of ws)) ≡ ws = forth ws k in
      let l = law (of zs) (of ws) (ap of f) (ap of g) in
      ((λ t. sym f ∙ l.0 t ∙ g), λ e. l.1 (f ∙ e ∙ sym g))

  pub box_eq : (a b : List (ℤ × ℤ)) → IsBox low high n a → IsBox low high n b
      → IsTrue (eq (of (map (λ (x : ℤ × ℤ). x.0) a)) (of (map (λ (x : ℤ × ℤ). x.0) b))
      && eq (of (map (λ (x : ℤ × ℤ). x.1) a)) (of (map (λ (x : ℤ × ℤ). x.1) b))) ↔ (a ≡ b)
  box_eq a b h k =
      let r = bounds-ranged low high a h.ranged in
      let s = bounds-ranged low high b k.ranged in
      let l = point-eq _ _ (record { long = length-map a _ ∙ h.long; ranged = r.0 })
      (record { long = length-map b _ ∙ k.long; ranged = s.0 }) in
      let u = point-eq _ _ (record { long = length-map a _ ∙ h.long; ranged = r.1 })
      (record { long = length-map b _ ∙ k.long; ranged = s.1 }) in (
        (λ t. let p = and_parts _ _ t in parts-same a b (l.0 p.0) (u.0 p.1)),
        λ e. and_both _ _ (l.1 (ap (map (λ (x : ℤ × ℤ). x.0)) e)) (u.1 (ap (map (λ (x : ℤ × ℤ). x.1)) e)),
      )
