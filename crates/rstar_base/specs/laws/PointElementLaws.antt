-- A point keeps the laws of elements.
use Rattle.std.specs.Prelude.{ℕ, ℤ}
use Rattle.rstar_base.specs.Points.{IsPoint}
use Rattle.rstar_base.specs.Boxes.{between_corners}
use Rattle.rstar_base.specs.BoxData.{box_data}
use Rattle.rstar_base.specs.BoxElements.{box_objects, box_distances}
use Rattle.rstar_base.specs.Elements.{DistanceLaws}
use Rattle.rstar_base.specs.PointElements.{point_object, point_distances}
use Rattle.rstar_base.specs.laws.BoxElementLaws.{box_element_laws}
use Rattle.rstar_base.specs.laws.CarrierLaws.{carried_laws}

pub point_distance_laws : {P : Type 0} (low high : ℤ) (n : ℕ) (coord : P → ℕ → ℤ)
    → DistanceLaws (IsPoint low high n) (box_data low high n)
    (point_object low high n coord) (point_distances high n coord)
point_distance_laws low high n coord =
    carried_laws (box_data low high n) (box_objects low high n) (box_distances high)
    (λ t. between_corners n (coord t) (coord t)) (box_element_laws low high n)
