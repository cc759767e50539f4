-- The laws of stretches as envelopes.
use Rattle.std.specs.Prelude.{◌≡◌, ◌&&◌, ◌*◌, ◌≤◌, ◌≤ℤ◌, ◌↔◌, ℕ, ℤ, Bool, true, false, cond, pos, min, max, int_le, int_lt, IsTrue, refl}
use Rattle.std.specs.Int.{int_min, int_max}
use Rattle.std.specs.Ordering.{int_eq}
use Rattle.std.proofs.Math.Dec.{eqb}
use Rattle.std.proofs.Math.Facts.{eqb_yes}
use Rattle.std.proofs.lemmas.Bool.{eq-eqb}
use lib.Dec.{T}
use Rattle.std.proofs.Common.{ap, subst, arith, ◌∙◌}
use Rattle.std.proofs.lemmas.Int.{ints, clamps, by_lt_z}
use Rattle.rstar_base.specs.Scalars.{InRange}
use Rattle.rstar_base.specs.Points.{IsPoint}
use Rattle.rstar_base.specs.laws.PointLemmas.{and_parts, and_both}
use Rattle.rstar_base.specs.Envelopes.{EnvelopeLaws}
use Rattle.rstar_base_vectors.specs.Stretches.{low, high, greatest_number, length_between, gap_between, nearer_end, held_square, empty_stretch, IsStretch, merge_stretches, number_of, stretch_data}

least_comm : (x y : ℤ) → int_min x y ≡ int_min y x
least_comm x y = omega (arith, ints, clamps)

greatest_comm : (x y : ℤ) → int_max x y ≡ int_max y x
greatest_comm x y = omega (arith, ints, clamps)

least_assoc : (x y z : ℤ) → int_min (int_min x y) z ≡ int_min x (int_min y z)
least_assoc x y z = omega (arith, ints, clamps)

greatest_assoc : (x y z : ℤ) → int_max (int_max x y) z ≡ int_max x (int_max y z)
greatest_assoc x y z = omega (arith, ints, clamps)

level_comm : (m n : ℕ) → max m n ≡ max n m
level_comm m n = omega arith

level_assoc : (m n k : ℕ) → max (max m n) k ≡ max m (max n k)
level_assoc m n k = omega arith

level_unit : (m : ℕ) → max 0 m ≡ m
level_unit m = omega arith

least_unit : (x : ℤ) → InRange low high x → int_min high x ≡ x
least_unit x h = let b = h.below in grind (arith, ints)

greatest_unit : (x : ℤ) → InRange low high x → int_max low x ≡ x
greatest_unit x h = let a = h.above in grind (arith, ints)

least_ranged : (x y : ℤ) → InRange low high x → InRange low high y → InRange low high (int_min x y)
least_ranged x y h k =
    let a = h.above in let b = h.below in let c = k.above in let d = k.below in
    record { above = grind (arith, ints); below = grind (arith, ints) }

greatest_ranged : (x y : ℤ) → InRange low high x → InRange low high y → InRange low high (int_max x y)
greatest_ranged x y h k =
    let a = h.above in let b = h.below in let c = k.above in let d = k.below in
    record { above = grind (arith, ints); below = grind (arith, ints) }

comm : (a b : ℤ × ℤ × ℕ) → merge_stretches a b ≡ merge_stretches b a
comm a b =
    let p = least_comm a.0 b.0 in let q = greatest_comm a.1 b.1 in let r = level_comm a.2 b.2 in rw (p, q, r) refl

assoc : (a b c : ℤ × ℤ × ℕ) → merge_stretches (merge_stretches a b) c ≡ merge_stretches a (merge_stretches b c)
assoc a b c =
    let p = least_assoc a.0 b.0 c.0 in let q =
    greatest_assoc a.1 b.1 c.1 in let r = level_assoc a.2 b.2 c.2 in rw (p, q, r) refl

unit : (a : ℤ × ℤ × ℕ) → IsStretch a → merge_stretches empty_stretch a ≡ a
unit a h =
    let p = least_unit a.0 h.first in let q = greatest_unit a.1 h.last in let r = level_unit a.2 in rw (p, q, r) refl

empty_left : (a b c d : ℤ) → int_lt (int_max c d) (int_min a b) ≡ true → int_lt c a ≡ true
empty_left a b c d h = grind (arith, ints)

empty_right : (a b c d : ℤ) → int_lt (int_max c d) (int_min a b) ≡ true → int_lt d b ≡ true
empty_right a b c d h = grind (arith, ints)

pub merged_stretch : (a b : ℤ × ℤ × ℕ) → IsStretch a → IsStretch b → IsStretch (merge_stretches a b)
merged_stretch a b h k = record {
  first = least_ranged a.0 b.0 h.first k.first;
  last = greatest_ranged a.1 b.1 h.last k.last;
  shape = λ e.
      let p : a ≡ empty_stretch = h.shape (empty_left a.0 b.0 a.1 b.1 e) in
      let q : b ≡ empty_stretch = k.shape (empty_right a.0 b.0 a.1 b.1 e) in
      ap (λ w. merge_stretches w b) p ∙ unit b k ∙ q;
}

in_range : (z : ℤ) → low ≤ℤ z → z ≤ℤ high → InRange low high z
in_range z h k = record { above = h; below = k }

empty-stretch : IsStretch empty_stretch
empty-stretch =
    record {
      first =
          in_range high (omega (arith, ints)) (omega (arith, ints));
      last =
          in_range low (omega (arith, ints)) (omega (arith, ints));
      shape = λ _. refl;
    }

within : (a b c d : ℤ) → (int_le (int_min a b) a && int_le c (int_max c d)) ≡ true
within a b c d = grind (arith, ints)

around_point : (a b c d q : ℤ) → (int_le a q && int_le q c) ≡ true
    → (int_le (int_min a b) q && int_le q (int_max c d)) ≡ true
around_point a b c d q h = let p = and_parts (int_le a q) (int_le q c) h in
    let l : int_le a q ≡ true = p.0 in let r : int_le q c ≡ true = p.1 in
    and_both (int_le (int_min a b) q) (int_le q (int_max c d)) (grind (arith, ints)) (grind (arith, ints))

meets : (a b c d x y : ℤ) → (int_le a y && int_le x c) ≡ true
    → (int_le (int_min a b) y && int_le x (int_max c d)) ≡ true
meets a b c d x y h = let p = and_parts (int_le a y) (int_le x c) h in
    let l : int_le a y ≡ true = p.0 in let r : int_le x c ≡ true = p.1 in
    and_both (int_le (int_min a b) y) (int_le x (int_max c d)) (grind (arith, ints)) (grind (arith, ints))

le_trans : (x y z : ℤ) → int_le x y ≡ true → int_le y z ≡ true → int_le x z ≡ true
le_trans x y z h k = grind (arith, ints)

le_refl : (x : ℤ) → int_le x x ≡ true
le_refl x = grind (arith, ints)

in_order : (x y : ℤ) → int_lt y x ≡ false → int_le x y ≡ true
in_order x y h = grind (arith, ints)

square_up : (m n : ℕ) → m ≤ n → m * m ≤ n * n
square_up m n h = grind arith

longer_down : (q a b : ℤ) → a ≤ℤ b → length_between q a ≤ length_between q b
longer_down q a b h = grind (arith, ints)

longer_up : (q c d : ℤ) → c ≤ℤ d → length_between d q ≤ length_between c q
longer_up q c d h = grind (arith, ints)

gap_wider : (a b c d q : ℤ) → a ≤ℤ b → c ≤ℤ d → gap_between a d q ≤ gap_between b c q
gap_wider a b c d q h k = let l = longer_down q a b h in let u = longer_up q c d k in omega (arith, l, u)

least_le : (x y : ℤ) → int_min x y ≤ℤ x
least_le x y = grind (arith, ints)

greatest_le : (x y : ℤ) → x ≤ℤ int_max x y
greatest_le x y = grind (arith, ints)

gap_up : (a b c d q : ℤ) → gap_between (int_min a b) (int_max c d) q ≤ gap_between a c q
gap_up a b c d q = gap_wider (int_min a b) a c (int_max c d) q (least_le a b) (greatest_le c d)

held_up : (m n : ℕ) → m ≤ n → held_square greatest_number m ≤ held_square greatest_number n
held_up m n h = let s = square_up m n h in omega (arith, s)

either : (f : ℤ → ℕ) (t : Bool) (a b : ℤ) → min (f a) (f b) ≤ f (cond t a b)
either f true a b = omega arith
either f false a b = omega arith

end_up : (a b c d q : ℤ) → min (nearer_end a c q) (nearer_end b d q) ≤ nearer_end (int_min a b) (int_max c d) q
end_up a b c d q =
    let l = either (λ z. gap_between z z q) (int_lt b a) b a in
    let u = either (λ z. gap_between z z q) (int_lt d c) c d in
    omega (arith, l, u)

held_least : (m n k : ℕ) → min m n ≤ k
    → min (held_square greatest_number m) (held_square greatest_number n) ≤ held_square greatest_number k
held_least m n k h =
    by_lt_z (pos m) (pos n)
    (λ l. let s = held_up m k (omega (arith, ints)) in omega (arith, s))
    (λ l. let s = held_up n k (omega (arith, ints)) in omega (arith, s))

int_told : (x y : ℤ) → IsTrue (int_eq x y) → x ≡ y
int_told x y h = grind (arith, ints)

int_itself : (x : ℤ) → IsTrue (int_eq x x)
int_itself x = grind (arith, ints)

told : (b : Bool) → IsTrue b → T b
told true h = tt
told false h = cc

nat_told : (m n : ℕ) → IsTrue (eqb m n) → m ≡ n
nat_told m n h = eqb_yes (told (eqb m n) h)

nat_itself : (m : ℕ) → IsTrue (eqb m m)
nat_itself m = eq-eqb m m refl

eq_parts : (a b : ℤ × ℤ × ℕ) → IsTrue (int_eq a.0 b.0 && (int_eq a.1 b.1 && eqb a.2 b.2)) → a ≡ b
eq_parts a b h =
    let p = and_parts (int_eq a.0 b.0) (int_eq a.1 b.1 && eqb a.2 b.2) h in
    let q = and_parts (int_eq a.1 b.1) (eqb a.2 b.2) p.1 in
    let x : a.0 ≡ b.0 = int_told a.0 b.0 p.0 in
    let y : a.1 ≡ b.1 = int_told a.1 b.1 q.0 in
    let z : a.2 ≡ b.2 = nat_told a.2 b.2 q.1 in rw (x, y, z) refl

parts_eq : (a b : ℤ × ℤ × ℕ) → a ≡ b → IsTrue (int_eq a.0 b.0 && (int_eq a.1 b.1 && eqb a.2 b.2))
parts_eq a b e = subst (λ w. IsTrue (int_eq a.0 w.0 && (int_eq a.1 w.1 && eqb a.2 w.2))) e
    (and_both (int_eq a.0 a.0) (int_eq a.1 a.1 && eqb a.2 a.2) (int_itself a.0)
    (and_both (int_eq a.1 a.1) (eqb a.2 a.2) (int_itself a.1) (nat_itself a.2)))

pub stretch_eq : (a b : ℤ × ℤ × ℕ) → IsTrue (int_eq a.0 b.0 && (int_eq a.1 b.1 && eqb a.2 b.2)) ↔ (a ≡ b)
stretch_eq a b = (eq_parts a b, parts_eq a b)

pub stretch_laws : EnvelopeLaws (IsPoint low high 1) stretch_data
stretch_laws = record {
  empty_value = empty-stretch;
  merge_value = merged_stretch;
  merge_comm = λ a b _ _. comm a b;
  merge_assoc = λ a b c _ _ _. assoc a b c;
  merge_empty = unit;
  merge_is_empty = λ a b _ _ e. (empty_left a.0 b.0 a.1 b.1 e, empty_right a.0 b.0 a.1 b.1 e);
  empty_same = λ a h e. h.shape e;
  merge_contains = λ a b _ _. within a.0 b.0 a.1 b.1;
  merge_contains_point = λ a b p _ _ _ c. around_point a.0 b.0 a.1 b.1 (number_of p) c;
  merge_intersects = λ a b c _ _ _ i. meets a.0 b.0 a.1 b.1 c.0 c.1 i;
  contains_refl = λ a _. and_both (int_le a.0 a.0) (int_le a.1 a.1) (le_refl a.0) (le_refl a.1);
  contains_trans = λ a b c _ _ _ h k.
      let p = and_parts (int_le a.0 b.0) (int_le b.1 a.1) h in let q = and_parts (int_le b.0 c.0) (int_le c.1 b.1) k in
      and_both (int_le a.0 c.0) (int_le c.1 a.1) (le_trans a.0 b.0 c.0 p.0 q.0) (le_trans c.1 b.1 a.1 q.1 p.1);
  intersects_sym = λ a b _ _ h.
      let p = and_parts (int_le a.0 b.1) (int_le b.0 a.1) h in and_both (int_le b.0 a.1) (int_le a.0 b.1) p.1 p.0;
  contains_intersects = λ a b _ _ h e.
      let p = and_parts (int_le a.0 b.0) (int_le b.1 a.1) h in
      let o = in_order b.0 b.1 e in
      and_both (int_le a.0 b.1) (int_le b.0 a.1) (le_trans a.0 b.0 b.1 p.0 o) (le_trans b.0 b.1 a.1 o p.1);
  merge_distance = λ a b p _ _ _ _. held_up _ _ (gap_up a.0 b.0 a.1 b.1 (number_of p));
  merge_min_max = λ a b p _ _ _ _ _. held_least _ _ _ (end_up a.0 b.0 a.1 b.1 (number_of p));
}
