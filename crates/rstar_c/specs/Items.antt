-- Rectangles with IDs, as the tree holds them, and what is asked of lists of them.
use Rattle.std.specs.Prelude.{◌^◌, ◌-◌, ℕ, ℤ, Bool, List, [], ◌∷◌, pos, negsuc, int_le, map}
use Rattle.std.specs.Int.{int_min, int_max}
use Rattle.std.specs.Ordering.{int_cmp, nat_cmp, ordering_then}
use Rattle.std.specs.Cmp.Lexicographic.{slice_cmp}
use Rattle.std.specs.declared.cmp.Ordering.{Ordering}
use Rattle.rstar_base.specs.declared.primitives.Rectangle.{Rectangle}
use Rattle.rstar_base.specs.Boxes.{box_of_corners, boxes_intersect, contains_box}
use Rattle.rstar_base.specs.Elements.{Distances, carried_distances}
use Rattle.rstar_base.specs.Points.{table}
use Rattle.rstar_base.specs.Rectangles.{box_or_empty, rectangle_distances}
use Rattle.rstar_base.specs.Segments.{coordinate}
use Rattle.rstar.specs.Lists.{IsNotLater}
use Rattle.rstar_c.specs.declared.items.Corners.{Corners}
use Rattle.rstar_c.specs.declared.items.Place.{Place}

-- a rectangle, kept as its lower and its upper corner, and its ID
abbrev pub Item : Type 0
Item = Rectangle (List ℤ) × ℕ

-- an interval for each of two axes
abbrev pub Box : Type 0
Box = List (ℤ × ℤ)

-- the least and the greatest coordinate
abbrev pub low : ℤ
low = negsuc (2 ^ 63 - 1)

abbrev pub high : ℤ
high = pos (2 ^ 63 - 1)

-- ---- what C gives

-- the rectangle with these corners
abbrev pub rectangle : List ℤ → List ℤ → Rectangle (List ℤ)
rectangle lower upper = record { lower = lower; upper = upper }

-- the item of two opposite corners and an ID: on each axis the lesser coordinate is the lower one
abbrev pub item_of : ℕ → Corners → Item
item_of id c = (
  rectangle
      (int_min (coordinate c.one 0) (coordinate c.other 0) ∷ int_min (coordinate c.one 1) (coordinate c.other 1) ∷ [])
      (int_max (coordinate c.one 0) (coordinate c.other 0) ∷ int_max (coordinate c.one 1) (coordinate c.other 1) ∷ []),
  id,
)

-- the items of corners and IDs, as far as both lists reach
abbrev pub items_of : List Corners → List ℕ → List Item
items_of [] ids = []
items_of (c ∷ cs) [] = []
items_of (c ∷ cs) (id ∷ ids) = item_of id c ∷ items_of cs ids

-- the box of two opposite corners: on each axis from the lesser coordinate to the greater
abbrev pub box_between : Corners → Box
box_between c = box_of_corners 2 (coordinate c.one) (coordinate c.other)

-- ---- what C gets

-- the ID of an item
abbrev pub number : Item → ℕ
number item = item.1

-- where an item lies
abbrev pub box_of : Item → Box
box_of item = box_or_empty low high 2 (coordinate item.0.lower) (coordinate item.0.upper)

-- the corners of its box, the lower one first
abbrev pub corners_of : Item → Corners
corners_of item = record { one = map (λ x. x.0) (box_of item); other = map (λ x. x.1) (box_of item) }

-- ---- what is asked

-- an item meets a box; touching is enough
abbrev pub meets : Corners → Item → Bool
meets c item = boxes_intersect (box_between c) (box_of item)

-- it lies inside a box, and may touch its border
abbrev pub lies_in : Corners → Item → Bool
lies_in c item = contains_box (box_between c) (box_of item)

abbrev pub item_distances : Distances Item
item_distances =
    carried_distances (rectangle_distances low high 2 (λ r. coordinate r.lower) (λ r. coordinate r.upper)) (λ item. item.0)

-- it contains a point; its border belongs to it
abbrev pub covers : Place → Item → Bool
covers place item = item_distances.contains_point item (table 2 (coordinate place.at))

-- its squared distance from a point, held at the greatest coordinate
abbrev pub distance_to : Place → Item → ℕ
distance_to place item = item_distances.distance_2 item (table 2 (coordinate place.at))

-- that distance is at most this
abbrev pub is_within : ℤ → Place → Item → Bool
is_within distance place item = int_le (pos (distance_to place item)) distance

-- two items intersect; touching is enough
abbrev pub intersect : Item → Item → Bool
intersect one other = boxes_intersect (box_of one) (box_of other)

-- ---- the order of neighbours

-- the items' own order: by their lower corners, then by their upper ones, and then by their IDs
abbrev pub compare_items : Item → Item → Ordering
compare_items a b =
    ordering_then
    (ordering_then (slice_cmp int_cmp a.0.lower b.0.lower) (slice_cmp int_cmp a.0.upper b.0.upper))
    (nat_cmp a.1 b.1)

-- one item may stand before another in a list of neighbours: by distance, and at equal distance by the items' own order
abbrev pub IsBefore : Place → Item → Item → Type 0
IsBefore place = IsNotLater (distance_to place) compare_items
