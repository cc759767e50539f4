-- Points as elements.
use Rattle.std.specs.Prelude.{ℕ, ℤ, List}
use Rattle.rstar_base.specs.Boxes.{between_corners, box_contains_point, IsBox}
use Rattle.rstar_base.specs.Distances.{box_distance}
use Rattle.rstar_base.specs.Elements.{Objects, Distances}

-- the envelope of a point is the box of that one point
abbrev pub point_object : {P : Type 0} → ℤ → ℤ → (n : ℕ) → (P → ℕ → ℤ) → Objects P (List (ℤ × ℤ))
point_object low high n coord = record {
  IsValue = λ p. IsBox low high n (between_corners n (coord p) (coord p));
  box_of = λ p. between_corners n (coord p) (coord p);
}

-- the distance of a point is that of its box
abbrev pub point_distances : {P : Type 0} → ℤ → (n : ℕ) → (P → ℕ → ℤ) → Distances P
point_distances high n coord = record {
  distance_2 = λ t p. box_distance high (between_corners n (coord t) (coord t)) p;
  contains_point = λ t p. box_contains_point (between_corners n (coord t) (coord t)) p;
}
