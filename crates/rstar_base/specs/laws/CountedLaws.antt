-- Envelopes with a count keep the laws of envelopes, and elements that count once those of elements.
use Rattle.std.specs.Prelude.{◌≡◌, ◌↔◌, ◌&&◌, IsTrue, nat_eq, ◌+◌, ℕ, ℤ, min, Bool, true, List, [], ◌∷◌, length}
use Rattle.std.proofs.Common.{refl, ap, arith}
use Rattle.std.proofs.lemmas.Bool.{eqb-true, eqb-false, eq-eqb, false_from_ne_true}
use Rattle.rstar_base.specs.laws.PointLemmas.{and_parts, and_both}
use Rattle.rstar_base.specs.Envelopes.{Boxes, EnvelopeLaws}
use Rattle.rstar_base.specs.Hulls.{hull}
use Rattle.rstar_base.specs.Elements.{Objects, Distances, DistanceLaws}
use Rattle.rstar_base.specs.Counts.{usize_max, IsCounted, counted_boxes, counted_objects}

abbrev IsSame : (A B : Type 0) → A × B → A × B → Type 0
IsSame A B p q = p ≡ q

pair_same : {A B : Type 0} {a b : A} {x y : B} → a ≡ b → x ≡ y → IsSame A B (a, x) (b, y)
pair_same {A} {B} {a} {b} {x} {y} p q = let e : (b, y) ≡ (b, y) = refl in rw (p, q) e

zero_if : {E : Type 0} (v : Boxes E) (e : E) (m : ℕ) → v.is_empty e ≡ true → IsCounted v e m → m ≡ 0
zero_if v e m h k = grind (arith, k.some)

-- equality compares envelope and count
pub counted_eq : {E : Type 0} (eq : E → E → Bool) (a b : E × ℕ) → IsTrue (eq a.0 b.0) ↔ (a.0 ≡ b.0)
    → IsTrue (eq a.0 b.0 && nat_eq a.1 b.1) ↔ (a ≡ b)
counted_eq eq a b h = (
  (λ t. let p = and_parts _ _ t in pair_same (h.0 p.0) (eqb-true _ _ p.1)),
  λ e. and_both _ _ (h.1 (ap (λ x. x.0) e)) (eq-eqb _ _ (ap (λ x. x.1) e)),
)

module _ {E : Type 0} {IsPoint : List ℤ → Type 0} (v : Boxes E) (l : EnvelopeLaws IsPoint v) where
  pub merge_counted : (a b : E) (m n : ℕ) → IsCounted v a m → IsCounted v b n
      → IsCounted v (v.merge a b) (min (m + n) usize_max)
  merge_counted a b m n h k = record {
    inside = l.merge_value a b h.inside k.inside;
    fits = omega arith;
    none = λ e. rw (h.none (omega arith), k.none (omega arith)) (l.merge_empty v.empty l.empty_value);
    some = λ ne. false_from_ne_true _ (λ e. let p = l.merge_is_empty a b h.inside k.inside e in
        ne (omega (arith, zero_if v a m p.0 h, zero_if v b n p.1 k)));
  }

  pub counted_laws : EnvelopeLaws IsPoint (counted_boxes v)
  counted_laws = record {
    empty_value =
        record { inside = l.empty_value; fits = omega arith; none = λ _. refl; some = λ ne. absurd (ne refl) };
    merge_value = λ a b h k. merge_counted a.0 b.0 a.1 b.1 h k;
    merge_comm = λ a b h k. pair_same (l.merge_comm a.0 b.0 h.inside k.inside) (omega arith);
    merge_assoc = λ a b c h k m. pair_same (l.merge_assoc a.0 b.0 c.0 h.inside k.inside m.inside) (omega arith);
    merge_empty = λ a h. let f = h.fits in pair_same (l.merge_empty a.0 h.inside) (omega arith);
    merge_is_empty = λ a b h k e. let z : min (a.1 + b.1) usize_max ≡ 0 = eqb-true _ 0 e in
        (eq-eqb _ 0 (omega arith), eq-eqb _ 0 (omega arith));
    empty_same = λ a h e. let z = eqb-true a.1 0 e in pair_same (h.none z) z;
    merge_contains = λ a b h k. l.merge_contains a.0 b.0 h.inside k.inside;
    merge_contains_point = λ a b p ip h k. l.merge_contains_point a.0 b.0 p ip h.inside k.inside;
    merge_intersects = λ a b c h k m. l.merge_intersects a.0 b.0 c.0 h.inside k.inside m.inside;
    contains_refl = λ a h. l.contains_refl a.0 h.inside;
    contains_trans = λ a b c h k m. l.contains_trans a.0 b.0 c.0 h.inside k.inside m.inside;
    intersects_sym = λ a b h k. l.intersects_sym a.0 b.0 h.inside k.inside;
    contains_intersects = λ a b h k c e. l.contains_intersects a.0 b.0 h.inside k.inside c (k.some (eqb-false b.1 0 e));
    merge_distance = λ a b p ip h k e. l.merge_distance a.0 b.0 p ip h.inside k.inside (h.some (eqb-false a.1 0 e));
    merge_min_max = λ a b p ip h k e f. l.merge_min_max a.0 b.0 p ip h.inside k.inside (h.some (eqb-false a.1 0 e))
        (k.some (eqb-false b.1 0 f));
  }

-- elements that count once
pub counted_element_laws : {T E : Type 0} {IsPoint : List ℤ → Type 0} (v : Boxes E) (o : Objects T E) (d : Distances T)
    → DistanceLaws IsPoint v o d → DistanceLaws IsPoint (counted_boxes v) (counted_objects v o) d
counted_element_laws v o d l = record {
  near = λ t p h k _. l.near t p h k.0 (k.1.some (λ z. absurd (omega (arith, z))));
  within = λ t p h k _. l.within t p h k.0 (k.1.some (λ z. absurd (omega (arith, z))));
  contained = λ t p h k c. l.contained t p h k.0 c;
}

-- the merge of a list counts each of its items, where each counts once
pub hull_count : {T E : Type 0} (v : Boxes E) (f : T → E) (ts : List T)
    → (hull (counted_boxes v) (λ t. (f t, 1)) ts).1 ≡ min (length ts) usize_max
hull_count v f [] = omega arith
hull_count v f (t ∷ ts) = omega (arith, hull_count v f ts)
