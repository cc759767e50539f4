-- A box keeps the laws of elements.
use Rattle.std.specs.Prelude.{◌≡◌, ◌≤◌, ◌-ℤ◌, ℕ, ℤ, false, zero, suc, List, [], ◌∷◌, length, int_lt, unsigned_abs}
use Rattle.std.proofs.Common.{arith}
use Rattle.std.proofs.lemmas.Int.{ints}
use Rattle.rstar_base.specs.Points.{IsPoint}
use Rattle.rstar_base.specs.Boxes.{is_empty_box}
use Rattle.rstar_base.specs.Distances.{square_apart, nearest_on_axis, distance_sum, near_face, far_sum, faces_at, box_distance, box_min_max}
use Rattle.rstar_base.specs.laws.DistanceLaws.{square_up}
use Rattle.rstar_base.specs.laws.Leasts.{least-above}
use Rattle.rstar_base.specs.BoxData.{box_data}
use Rattle.rstar_base.specs.Elements.{DistanceLaws}
use Rattle.rstar_base.specs.BoxElements.{box_objects, box_distances}

-- the nearest number of an interval is no farther than either of its ends
no_face_nearer : (x : ℤ × ℤ) (q : ℤ) → int_lt x.1 x.0 ≡ false → square_apart q (nearest_on_axis x q) ≤ near_face x q
no_face_nearer x q h =
    let d = unsigned_abs (nearest_on_axis x q -ℤ q) in
    let l = square_up d (unsigned_abs (x.0 -ℤ q)) (grind (arith, ints)) in
    let u = square_up d (unsigned_abs (x.1 -ℤ q)) (grind (arith, ints)) in omega (arith, l, u)

distance-far : (b : List (ℤ × ℤ)) (p : List ℤ) → is_empty_box b ≡ false → distance_sum b p ≤ far_sum b p
distance-far (x ∷ xs) (q ∷ qs) h = grind (arith, no_face_nearer x q, distance-far xs qs)
distance-far b p h = omega arith

distance-faces : (k : ℕ) (b : List (ℤ × ℤ)) (p : List ℤ) → is_empty_box b ≡ false → distance_sum b p ≤ faces_at k b p
distance-faces zero (x ∷ xs) (q ∷ qs) h = grind (arith, no_face_nearer x q, distance-far xs qs)
distance-faces (suc k) (x ∷ xs) (q ∷ qs) h = grind (arith, no_face_nearer x q, distance-faces k xs qs)
distance-faces k b p h = grind arith

-- the distance of a box is at most its min-max distance
pub box_within : (high : ℤ) (b : List (ℤ × ℤ)) (p : List ℤ) → is_empty_box b ≡ false
    → box_distance high b p ≤ box_min_max high b p
box_within high [] p h = omega arith
box_within high (x ∷ xs) p h =
    least-above (unsigned_abs high) _ (length (x ∷ xs)) _ (λ k. distance-faces k (x ∷ xs) p h)

pub box_element_laws : (low high : ℤ) (n : ℕ)
    → DistanceLaws (IsPoint low high n) (box_data low high n) (box_objects low high n) (box_distances high)
box_element_laws low high n = record {
  near = λ b p _ _ _. omega arith;
  within = λ b p _ _ h. box_within high b p h;
  contained = λ b p _ _ h. h;
}
