-- Polygons, and the points that they contain. A polygon is a number and a list of corners; the last corner joins the first.
use Rattle.std.specs.Prelude.{◌-ℤ◌, ◌*ℤ◌, ◌%◌, ◌==◌, ◌&&◌, ◌||◌, ℕ, ℤ, Bool, List, [], ◌∷◌, pos, negsuc, int_le, int_lt, count_by}
use Rattle.std.specs.Int.{int_min, int_max}
use Rattle.std.specs.List.{list_any}
use Rattle.std.specs.Ordering.{int_eq}
use Rattle.rstar_base.specs.BoxData.{box_data}
use Rattle.rstar_base.specs.Boxes.{between_corners, IsBox}
use Rattle.rstar_base.specs.Elements.{Objects}
use Rattle.rstar_base.specs.Hulls.{hull}
use Rattle.rstar_base.specs.Segments.{coordinate}

abbrev pub x_of : List ℤ → ℤ
x_of p = coordinate p 0

abbrev pub y_of : List ℤ → ℤ
y_of p = coordinate p 1

-- ---- edges

-- the edges of the way from a corner along a list of corners
abbrev pub edges_along : List ℤ → List (List ℤ) → List (List ℤ × List ℤ)
edges_along a [] = []
edges_along a (b ∷ corners) = (a, b) ∷ edges_along b corners

-- the last of a corner and those behind it
abbrev pub last_of : List ℤ → List (List ℤ) → List ℤ
last_of a [] = a
last_of a (b ∷ corners) = last_of b corners

-- the edges of a polygon: from its last corner to its first, and on from each corner to the next
abbrev pub edges_of : List (List ℤ) → List (List ℤ × List ℤ)
edges_of [] = []
edges_of (a ∷ corners) = edges_along (last_of a corners) (a ∷ corners)

-- ---- the point p

-- on which side of the way from a to b it lies: above 0 is left, below 0 is right, 0 is on the line through both.
-- It is the cross product of a - p and b - p.
abbrev pub side : List ℤ → List ℤ → List ℤ → ℤ
side p a b = (x_of a -ℤ x_of p) *ℤ (y_of b -ℤ y_of p) -ℤ (x_of b -ℤ x_of p) *ℤ (y_of a -ℤ y_of p)

-- whether z lies between two numbers, given in any order, or is one of them
abbrev pub is_between : ℤ → ℤ → ℤ → Bool
is_between a b z = int_le (int_min a b) z && int_le z (int_max a b)

-- whether it lies on an edge, ends included: in the edge's box and on its line
abbrev pub is_on_edge : List ℤ → List ℤ × List ℤ → Bool
is_on_edge p (a, b) = (is_between (x_of a) (x_of b) (x_of p) && is_between (y_of a) (y_of b) (y_of p)) && int_eq (side p a b) (pos 0)

-- whether the way from a to b rises right of it: it begins at the height of p or below, ends above, and has p on its left
abbrev pub rises_right_of : List ℤ → List ℤ → List ℤ → Bool
rises_right_of p a b = (int_le (y_of a) (y_of p) && int_lt (y_of p) (y_of b)) && int_lt (pos 0) (side p a b)

-- whether the ray from it to the right crosses an edge: that rises right of it, walked from one end or the other
abbrev pub is_crossed : List ℤ → List ℤ × List ℤ → Bool
is_crossed p (a, b) = rises_right_of p a b || rises_right_of p b a

abbrev pub is_odd : ℕ → Bool
is_odd n = n % 2 == 1

-- whether a polygon with these corners contains it: it lies on an edge, or the ray from it to the right crosses an odd
-- number of edges
abbrev pub contains : List ℤ → List (List ℤ) → Bool
contains p corners = list_any (is_on_edge p) (edges_of corners) || is_odd (count_by (is_crossed p) (edges_of corners))

-- ---- polygons as elements of a tree

-- the box of all corners
abbrev pub bounds_of : List (List ℤ) → List (ℤ × ℤ)
bounds_of corners =
    hull (box_data (negsuc 9223372036854775807) (pos 9223372036854775807) 2) (λ c. between_corners 2 (coordinate c) (coordinate c)) corners

abbrev pub polygon_objects : Objects (ℕ × List (List ℤ)) (List (ℤ × ℤ))
polygon_objects = record {
  IsValue = λ p. IsBox (negsuc 9223372036854775807) (pos 9223372036854775807) 2 (bounds_of p.1);
  box_of = λ p. bounds_of p.1;
}
