-- Bounding boxes as elements.
use Rattle.std.specs.Prelude.{ℕ, ℤ, List}
use Rattle.rstar_base.specs.Boxes.{box_contains_point, IsBox}
use Rattle.rstar_base.specs.Distances.{box_distance}
use Rattle.rstar_base.specs.Elements.{Objects, Distances}

-- a box is its own envelope
abbrev pub box_objects : ℤ → ℤ → ℕ → Objects (List (ℤ × ℤ)) (List (ℤ × ℤ))
box_objects low high n = record { IsValue = λ b. IsBox low high n b; box_of = λ b. b }

-- its distance is that of its nearest point, and it contains the points between its bounds
abbrev pub box_distances : ℤ → Distances (List (ℤ × ℤ))
box_distances high = record { distance_2 = λ b. box_distance high b; contains_point = λ b. box_contains_point b }
