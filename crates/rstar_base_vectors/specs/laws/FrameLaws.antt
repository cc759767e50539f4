-- The outline of a box keeps the laws of elements.
use Rattle.std.specs.Prelude.{◌≡◌, ◌≤◌, ◌*◌, ◌-ℤ◌, ◌&&◌, if◌then◌else◌, ℕ, ℤ, Bool, true, false, zero, suc, min, List, [], ◌∷◌, length, int_le, unsigned_abs}
use Rattle.std.specs.Int.{int_min, int_max}
use Rattle.std.proofs.Common.{refl, ap, arith}
use Rattle.std.proofs.lemmas.Int.{ints}
use Rattle.rstar_base.specs.Points.{IsPoint}
use Rattle.rstar_base.specs.laws.PointLemmas.{and_parts}
use Rattle.rstar_base.specs.Boxes.{box_contains_point}
use Rattle.rstar_base.specs.Distances.{square_apart, nearest_on_axis, distance_sum, faces_at, least_below, box_distance, box_min_max}
use Rattle.rstar_base.specs.BoxData.{box_data}
use Rattle.rstar_base.specs.Elements.{DistanceLaws}
use Rattle.rstar_base.specs.laws.BoxElementLaws.{box_within}
use Rattle.rstar_base_vectors.specs.Doors.{doors_objects}
use Rattle.rstar_base_vectors.specs.Frames.{near_face_at, nearest_face, frame_distances}

-- ---- from inside the box it is no distance

no_way : (x : ℤ × ℤ) (q : ℤ) → int_le x.0 q ≡ true → int_le q x.1 ≡ true → unsigned_abs (int_min x.1 (int_max x.0 q) -ℤ q) ≡ 0
no_way x q h k = grind (arith, ints)

no_square : (x : ℤ × ℤ) (q : ℤ) → int_le x.0 q ≡ true → int_le q x.1 ≡ true → square_apart q (nearest_on_axis x q) ≡ 0
no_square x q h k = ap (λ d. d * d) (no_way x q h k)

inside : (b : List (ℤ × ℤ)) (p : List ℤ) → box_contains_point b p ≡ true → distance_sum b p ≡ 0
inside [] p h = refl
inside (x ∷ xs) [] h = refl
inside (x ∷ xs) (q ∷ qs) h =
    let a = and_parts (int_le x.0 q && int_le q x.1) (box_contains_point xs qs) h in
    let e = and_parts (int_le x.0 q) (int_le q x.1) a.0 in
    let s = no_square x q e.0 e.1 in
    let r = inside xs qs a.1 in omega (arith, s, r)

-- ---- the nearest face is no farther than the nearest with all far faces beside it

least-up : (top n : ℕ) (f g : ℕ → ℕ) → ((k : ℕ) → f k ≤ g k) → least_below top n f ≤ least_below top n g
least-up top zero f g h = omega arith
least-up top (suc n) f g h =
    let z = h zero in
    let r = least-up top n (λ i. f (suc i)) (λ i. g (suc i)) (λ k. h (suc k)) in omega (arith, z, r)

near-least : (k : ℕ) (b : List (ℤ × ℤ)) (p : List ℤ) → near_face_at k b p ≤ faces_at k b p
near-least k [] p = omega arith
near-least k (x ∷ xs) [] = omega arith
near-least zero (x ∷ xs) (q ∷ qs) = omega arith
near-least (suc k) (x ∷ xs) (q ∷ qs) = let r = near-least k xs qs in omega (arith, r)

face_within : (high : ℤ) (b : List (ℤ × ℤ)) (p : List ℤ) → nearest_face high b p ≤ box_min_max high b p
face_within high [] p = omega arith
face_within high (x ∷ xs) p =
    least-up (unsigned_abs high) (length (x ∷ xs)) (λ k. near_face_at k (x ∷ xs) p) (λ k. faces_at k (x ∷ xs) p)
    (λ k. near-least k (x ∷ xs) p)

-- ---- the laws

at-least : (c : Bool) (m a b : ℕ) → (c ≡ true → m ≤ a) → m ≤ b → m ≤ (if c then a else b)
at-least true m a b h k = h refl
at-least false m a b h k = k

at-most : (c : Bool) (m a b : ℕ) → a ≤ m → b ≤ m → (if c then a else b) ≤ m
at-most true m a b h k = h
at-most false m a b h k = k

nothing : (d top k : ℕ) → d ≡ 0 → min d top ≤ k
nothing d top k h = omega arith

same_le : (m : ℕ) → m ≤ m
same_le m = omega arith

pub frame_laws : {F : Type 0} (low high : ℤ) (n : ℕ) (one other : F → ℕ → ℤ)
    → DistanceLaws (IsPoint low high n) (box_data low high n) (doors_objects low high n one other) (frame_distances high n one other)
frame_laws {F} low high n one other =
    let box : F → List (ℤ × ℤ) = λ f. (doors_objects low high n one other).box_of f in record {
      near = λ f p h v e.
          at-least (box_contains_point (box f) p) (box_distance high (box f) p) (nearest_face high (box f) p) (box_distance high (box f) p)
          (λ i. nothing (distance_sum (box f) p) (unsigned_abs high) (nearest_face high (box f) p) (inside (box f) p i))
          (same_le (box_distance high (box f) p));
      within = λ f p h v e.
          at-most (box_contains_point (box f) p) (box_min_max high (box f) p) (nearest_face high (box f) p) (box_distance high (box f) p)
          (face_within high (box f) p) (box_within high (box f) p e);
      contained = λ f p h v e. (and_parts (box_contains_point (box f) p) _ e).0;
    }
