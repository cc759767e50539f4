-- Two points as one element keep the laws of elements, which follow from those of points and of boxes.
use Rattle.std.specs.Prelude.{◌≡◌, ◌≤◌, ◌<ℤ◌, ◌&&◌, ◌||◌, ℕ, ℤ, Bool, true, false, IsTrue, List, min, pos, int_le}
use Rattle.std.specs.Int.{int_min}
use Rattle.std.proofs.Common.{refl, arith, subst}
use Rattle.std.proofs.lemmas.Int.{ints, clamps}
use Rattle.rstar_base.specs.Points.{IsPoint, table}
use Rattle.rstar_base.specs.laws.PointLemmas.{and_parts}
use Rattle.rstar_base.specs.laws.EqualElements.{point_equal}
use Rattle.rstar_base.specs.Boxes.{is_empty_box, box_contains_point, merge_boxes}
use Rattle.rstar_base.specs.laws.BoxLaws.{corners-upright, merge-box, merge-comm}
use Rattle.rstar_base.specs.Distances.{box_distance}
use Rattle.rstar_base.specs.BoxData.{box_data}
use Rattle.rstar_base.specs.laws.BoxEnvelopes.{box_laws}
use Rattle.rstar_base.specs.Elements.{ObjectLaws, DistanceLaws}
use Rattle.rstar_base.specs.laws.PointElementLaws.{point_distance_laws}
use Rattle.rstar_base_vectors.specs.Doors.{corner, doors_objects, doors_distances}

pub lesser : (x y z : ℤ) (a b : ℕ) → z ≡ int_min x y → x ≡ pos a → y ≡ pos b → z ≡ pos (min a b)
lesser x y z a b h k l = omega (arith, ints, clamps)

pub doors_object_law : {D : Type 0} (low high : ℤ) (n : ℕ) (front back : D → ℕ → ℤ)
    → ObjectLaws (box_data low high n) (doors_objects low high n front back)
doors_object_law low high n front back d v = merge-box low high n _ _ v.0 v.1

same-number : (x : ℤ) → int_le x x ≡ true
same-number x = grind (arith, ints)

point-upright : (n : ℕ) (c : ℕ → ℤ) → is_empty_box (corner n c) ≡ false
point-upright n c = corners-upright n c c (λ i _. same-number (c i))

either : (a b : Bool) (P : Type 0) → (a || b) ≡ true → (a ≡ true → P) → (b ≡ true → P) → P
either true b P h k l = k refl
either false b P h k l = l h

pub doors_laws : {D : Type 0} (low high : ℤ) (n : ℕ) (front back : D → ℕ → ℤ) → low <ℤ pos 0 → pos 0 <ℤ high
    → DistanceLaws (IsPoint low high n) (box_data low high n) (doors_objects low high n front back)
    (doors_distances high n front back)
doors_laws {D} low high n front back hl hh =
    let boxes = box_laws low high n hl hh in
    let points = point_distance_laws {P = ℕ → ℤ} low high n (λ c. c) in record {
      near = λ d p h v e.
          let a = boxes.merge_distance (corner n (front d)) (corner n (back d)) p h v.0 v.1
          (point-upright n (front d)) in
          let b = boxes.merge_distance (corner n (back d)) (corner n (front d)) p h v.1 v.0
          (point-upright n (back d)) in
          let c = subst (λ (w : List (ℤ × ℤ)). box_distance high w p ≤ box_distance high (corner n (back d)) p)
          (merge-comm (corner n (back d)) (corner n (front d))) b in
          omega (arith, a, c);
      within = λ d p h v e.
          let a = points.within (front d) p h v.0 (point-upright n (front d)) in
          let b = points.within (back d) p h v.1 (point-upright n (back d)) in
          let c = boxes.merge_min_max (corner n (front d)) (corner n (back d)) p h v.0 v.1 (point-upright n (front d))
          (point-upright n (back d)) in
          omega (arith, a, b, c);
      contained = λ d p h v e.
          either _ _ _ e
          (λ k. boxes.merge_contains_point (corner n (front d)) (corner n (back d)) p h v.0 v.1 k)
          (λ k. subst (λ (w : List (ℤ × ℤ)). box_contains_point w p ≡ true)
          (merge-comm (corner n (back d)) (corner n (front d)))
          (boxes.merge_contains_point (corner n (back d)) (corner n (front d)) p h v.1 v.0 k));
    }

-- places with equal doors have equal envelopes
pub doors_equal : {P : Type 0} (n : ℕ) (coord : P → ℕ → ℤ) (eq : P → P → Bool)
    → ((p q : P) → IsTrue (eq p q) → table n (coord p) ≡ table n (coord q))
    → (a b c d : P) → IsTrue (eq a c && eq b d)
    → merge_boxes (corner n (coord a)) (corner n (coord b)) ≡ merge_boxes (corner n (coord c)) (corner n (coord d))
doors_equal n coord eq same a b c d e =
    let p = and_parts (eq a c) (eq b d) e in
    rw (point_equal n coord eq same a c p.0, point_equal n coord eq same b d p.1) refl
