-- On which side of an edge a point lies, by products of distances.
use Rattle.std.proofs.Common.{◌≡◌, ◌*◌, ◌<◌, ◌-ℤ◌, ◌*ℤ◌, ◌≤ℤ◌, ◌<ℤ◌, ◌&&◌, ◌⊎◌, inl, inr, ℕ, ℤ, List, Bool, true, false, pos, negsuc, int_lt, nat_lt, nat_eq, unsigned_abs, sym, ap, ap₂, ◌∙◌, arith, FitsSigned, w64, to_z, of_z}
use Rattle.std.specs.Ordering.{int_eq}
use Rattle.std.proofs.lemmas.Int.{ints, by_lt_z}
use Rattle.std.proofs.lemmas.Bool.Decides.{nat_tests}
use Rattle.std.proofs.Math.Nat.{mul-pos}
use Rattle.rstar_base.specs.laws.PointLemmas.{and_parts}
use Rattle.rstar_uses.specs.Polygons.{x_of, y_of, side, is_between, is_on_edge}

-- the cross product of (d, v) and (e, u)
abbrev pub cross : ℤ → ℤ → ℤ → ℤ → ℤ
cross d e u v = d *ℤ u -ℤ e *ℤ v

-- an edge goes from v, which is at most 0, to u above 0: the point is left of it
pub left_of_both : (d e u v : ℤ) → pos 0 <ℤ d → pos 0 <ℤ u → pos 0 ≤ℤ e → v ≤ℤ pos 0 → int_lt (pos 0) (cross d e u v) ≡ true
left_of_both (pos d) (pos e) (pos u) v h k l m = more d e u v (mul-pos {m = d} {n = u} (omega (arith, ints)) (omega (arith, ints))) m
  where
    more : (d e u : ℕ) (v : ℤ) → 0 < d * u → v ≤ℤ pos 0 → int_lt (pos 0) (cross (pos d) (pos e) (pos u) v) ≡ true
    more d e u v p m = grind (arith, ints)
left_of_both (negsuc d) e u v h k l m = grind (arith, ints)
left_of_both (pos d) (negsuc e) u v h k l m = grind (arith, ints)
left_of_both (pos d) (pos e) (negsuc u) v h k l m = grind (arith, ints)

pub left_of_none : (d e u v : ℤ) → d ≤ℤ pos 0 → pos 0 <ℤ u → e ≤ℤ pos 0 → v ≤ℤ pos 0 → int_lt (pos 0) (cross d e u v) ≡ false
left_of_none d e u v h k l m = grind (arith, ints)

pub left_by_first : (d e u v : ℤ) → pos 0 <ℤ d → pos 0 <ℤ u → e ≤ℤ pos 0 → v ≤ℤ pos 0 → int_lt (pos 0) (cross d e u v) ≡ nat_lt (unsigned_abs e * unsigned_abs v) (unsigned_abs d * unsigned_abs u)
left_by_first d e u v h k l m = grind (arith, ints, nat_tests)

pub left_by_second : (d e u v : ℤ) → d ≤ℤ pos 0 → pos 0 <ℤ u → pos 0 <ℤ e → v ≤ℤ pos 0 → int_lt (pos 0) (cross d e u v) ≡ nat_lt (unsigned_abs d * unsigned_abs u) (unsigned_abs e * unsigned_abs v)
left_by_second d e u v h k l m = grind (arith, ints, nat_tests)

pub up : (a z : ℤ) → z <ℤ a → pos 0 <ℤ (a -ℤ z)
up a z h = omega (arith, ints)

pub up-too : (a z : ℤ) → z ≤ℤ a → pos 0 ≤ℤ (a -ℤ z)
up-too a z h = omega (arith, ints)

pub down : (a z : ℤ) → a ≤ℤ z → (a -ℤ z) ≤ℤ pos 0
down a z h = omega (arith, ints)

pub less : (a z : ℤ) → a <ℤ z → a ≤ℤ z
less a z h = omega (arith, ints)

-- one at most 0, and the other at least 0
abbrev pub Across : ℤ → ℤ → Type 0
Across d e = ((d ≤ℤ pos 0) × (pos 0 ≤ℤ e)) ⊎ ((e ≤ℤ pos 0) × (pos 0 ≤ℤ d))

turned : {d e : ℤ} → Across d e → Across e d
turned (inl h) = inr h
turned (inr h) = inl h

pub across : (a b z : ℤ) → is_between a b z ≡ true → Across (a -ℤ z) (b -ℤ z)
across a b z h = by_lt_z a b (λ l. inl (grind (arith, ints), grind (arith, ints))) (λ l. inr (grind (arith, ints), grind (arith, ints)))

pub on_line : (d e u v : ℤ) → Across d e → Across u v → int_eq (cross d e u v) (pos 0) ≡ nat_eq (unsigned_abs d * unsigned_abs u) (unsigned_abs e * unsigned_abs v)
on_line d e u v (inl h) (inl k) = grind (arith, ints, nat_tests)
on_line d e u v (inl h) (inr k) = grind (arith, ints, nat_tests)
on_line d e u v (inr h) (inl k) = grind (arith, ints, nat_tests)
on_line d e u v (inr h) (inr k) = grind (arith, ints, nat_tests)

-- a comparison of two numbers in hand
pub is_less : (x y : ℤ) → FitsSigned w64 x → FitsSigned w64 y → int_lt (to_z w64 (of_z w64 x)) (to_z w64 (of_z w64 y)) ≡ true → x <ℤ y
is_less x y f g h = grind (arith, ints)

pub is_not_less : (x y : ℤ) → FitsSigned w64 x → FitsSigned w64 y → int_lt (to_z w64 (of_z w64 x)) (to_z w64 (of_z w64 y)) ≡ false → y ≤ℤ x
is_not_less x y f g h = grind (arith, ints)

-- what the code's tests and areas say of a point and an edge
module _ (p a b : List ℤ) where
  abbrev d : ℤ
  d = x_of a -ℤ x_of p

  abbrev e : ℤ
  e = x_of b -ℤ x_of p

  abbrev u : ℤ
  u = y_of b -ℤ y_of p

  abbrev v : ℤ
  v = y_of a -ℤ y_of p

  pub on_edge_told : (m : Bool) (s t : ℕ) → m ≡ (is_between (x_of a) (x_of b) (x_of p) && is_between (y_of a) (y_of b) (y_of p)) → m ≡ true
      → s ≡ unsigned_abs d * unsigned_abs u → t ≡ unsigned_abs e * unsigned_abs v → nat_eq s t ≡ is_on_edge p (a, b)
  on_edge_told m s t h is f g =
      let both = sym h ∙ is in
      let parts = and_parts _ _ both in
      ap₂ nat_eq f g ∙ sym (on_line d e u v (across (x_of a) (x_of b) (x_of p) parts.0) (turned (across (y_of a) (y_of b) (y_of p) parts.1)))
      ∙ sym (ap (λ i. i && int_eq (cross d e u v) (pos 0)) both)

  pub off_edge_told : (m : Bool) → m ≡ (is_between (x_of a) (x_of b) (x_of p) && is_between (y_of a) (y_of b) (y_of p)) → m ≡ false → m ≡ is_on_edge p (a, b)
  off_edge_told m h is = is ∙ sym (ap (λ b. b && int_eq (cross d e u v) (pos 0)) (sym h ∙ is))

  module _ (below : y_of a ≤ℤ y_of p) (above : y_of p <ℤ y_of b) where
    pub both_right : x_of p <ℤ x_of a → x_of p <ℤ x_of b → true ≡ int_lt (pos 0) (side p a b)
    both_right h k = sym (left_of_both d e u v (up _ _ h) (up _ _ above) (up-too _ _ (less _ _ k)) (down _ _ below))

    pub none_right : x_of a ≤ℤ x_of p → x_of b ≤ℤ x_of p → false ≡ int_lt (pos 0) (side p a b)
    none_right h k = sym (left_of_none d e u v (down _ _ h) (up _ _ above) (down _ _ k) (down _ _ below))

    pub first_right : x_of p <ℤ x_of a → x_of b ≤ℤ x_of p → nat_lt (unsigned_abs e * unsigned_abs v) (unsigned_abs d * unsigned_abs u) ≡ int_lt (pos 0) (side p a b)
    first_right h k = sym (left_by_first d e u v (up _ _ h) (up _ _ above) (down _ _ k) (down _ _ below))

    pub second_right : x_of a ≤ℤ x_of p → x_of p <ℤ x_of b → nat_lt (unsigned_abs d * unsigned_abs u) (unsigned_abs e * unsigned_abs v) ≡ int_lt (pos 0) (side p a b)
    second_right h k = sym (left_by_second d e u v (down _ _ h) (up _ _ above) (up _ _ k) (down _ _ below))
