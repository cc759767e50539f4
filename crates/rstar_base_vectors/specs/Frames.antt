-- The outline of a box as one element, whose distance is that to the nearest face.
use Rattle.std.specs.Prelude.{◌&&◌, if◌then◌else◌, ℕ, ℤ, zero, suc, pos, List, [], ◌∷◌, length, int_le, unsigned_abs}
use Rattle.rstar_base.specs.Boxes.{box_contains_point, merge_boxes}
use Rattle.rstar_base.specs.Distances.{near_face, least_below, box_distance}
use Rattle.rstar_base.specs.Elements.{Distances}
use Rattle.rstar_base_vectors.specs.Doors.{corner}

-- the square from a point to the nearer face of a box on axis k
abbrev pub near_face_at : ℕ → List (ℤ × ℤ) → List ℤ → ℕ
near_face_at k [] p = 0
near_face_at k (x ∷ xs) [] = 0
near_face_at zero (x ∷ xs) (q ∷ qs) = near_face x q
near_face_at (suc k) (x ∷ xs) (q ∷ qs) = near_face_at k xs qs

-- the least of these over the axes, held at the greatest scalar; with no axis 0
abbrev pub nearest_face : ℤ → List (ℤ × ℤ) → List ℤ → ℕ
nearest_face high [] p = 0
nearest_face high (x ∷ xs) p = least_below (unsigned_abs high) (length (x ∷ xs)) (λ k. near_face_at k (x ∷ xs) p)

-- that is the distance from a point of the box, and from any other point the distance is that of the box
abbrev pub frame_distance : ℤ → List (ℤ × ℤ) → List ℤ → ℕ
frame_distance high b p = if box_contains_point b p then nearest_face high b p else box_distance high b p

-- a frame is the outline of the box between two corners, and contains the points on it
abbrev pub frame_distances : {F : Type 0} → ℤ → ℕ → (F → ℕ → ℤ) → (F → ℕ → ℤ) → Distances F
frame_distances high n one other = record {
  distance_2 = λ f p. frame_distance high (merge_boxes (corner n (one f)) (corner n (other f))) p;
  contains_point = λ f p. box_contains_point (merge_boxes (corner n (one f)) (corner n (other f))) p
      && int_le (pos (frame_distance high (merge_boxes (corner n (one f)) (corner n (other f))) p)) (pos 0);
}
