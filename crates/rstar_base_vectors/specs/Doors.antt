-- Two points as one element, whose distance is that to the nearer of them.
use Rattle.std.specs.Prelude.{◌||◌, ℕ, ℤ, List, min}
use Rattle.rstar_base.specs.Boxes.{between_corners, merge_boxes, box_contains_point, IsBox}
use Rattle.rstar_base.specs.Distances.{box_distance}
use Rattle.rstar_base.specs.Elements.{Objects, Distances}

-- the box of one point
abbrev pub corner : ℕ → (ℕ → ℤ) → List (ℤ × ℤ)
corner n c = between_corners n c c

-- the envelope is the merge of those of the two points
abbrev pub doors_objects : {D : Type 0} → ℤ → ℤ → ℕ → (D → ℕ → ℤ) → (D → ℕ → ℤ) → Objects D (List (ℤ × ℤ))
doors_objects low high n front back = record {
  IsValue = λ d. IsBox low high n (corner n (front d)) × IsBox low high n (corner n (back d));
  box_of = λ d. merge_boxes (corner n (front d)) (corner n (back d));
}

-- the distance is the lesser of the two, and a point is contained where it is one of them
abbrev pub doors_distances : {D : Type 0} → ℤ → ℕ → (D → ℕ → ℤ) → (D → ℕ → ℤ) → Distances D
doors_distances high n front back = record {
  distance_2 = λ d p. min (box_distance high (corner n (front d)) p) (box_distance high (corner n (back d)) p);
  contains_point = λ d p. box_contains_point (corner n (front d)) p || box_contains_point (corner n (back d)) p;
}
