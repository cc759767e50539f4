-- Rectangles, stored as two corners.
use Rattle.std.specs.Prelude.{if◌then◌else◌, ◌&&◌, ℕ, ℤ, Bool, List, int_le}
use Rattle.std.specs.Int.{int_max}
use Rattle.rstar_base.specs.Points.{all_below}
use Rattle.rstar_base.specs.Boxes.{between_corners, empty_box}
use Rattle.rstar_base.specs.BoxElements.{box_objects, box_distances}
use Rattle.rstar_base.specs.Elements.{Objects, Distances, carried_objects, carried_distances}

-- whether two corners are those of the empty box
abbrev pub are_empty_corners : ℤ → ℤ → ℕ → (ℕ → ℤ) → (ℕ → ℤ) → Bool
are_empty_corners low high n l u = all_below n (λ i. int_le high (l i) && int_le (u i) low)

-- the box of a rectangle's two corners: from the first to the second, or to the first where the second is below it;
-- the empty box for the corners of the empty box
abbrev pub box_or_empty : ℤ → ℤ → ℕ → (ℕ → ℤ) → (ℕ → ℤ) → List (ℤ × ℤ)
box_or_empty low high n l u =
    if are_empty_corners low high n l u then empty_box low high n else between_corners n l (λ i. int_max (l i) (u i))

-- a rectangle has the box between its corners as its envelope
abbrev pub rectangle_objects : {R : Type 0} → ℤ → ℤ → ℕ → (R → ℕ → ℤ) → (R → ℕ → ℤ) → Objects R (List (ℤ × ℤ))
rectangle_objects low high n lower upper =
    carried_objects (box_objects low high n) (λ r. box_or_empty low high n (lower r) (upper r))

-- and the distance and containment of that box
abbrev pub rectangle_distances : {R : Type 0} → ℤ → ℤ → ℕ → (R → ℕ → ℤ) → (R → ℕ → ℤ) → Distances R
rectangle_distances low high n lower upper =
    carried_distances (box_distances high) (λ r. box_or_empty low high n (lower r) (upper r))
