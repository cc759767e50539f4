-- Rectangles that each carry a number, and what is asked of lists of them.
use Rattle.std.specs.Prelude.{◌&&◌, ◌==◌, ℕ, ℤ, Bool, List, filter, length, map, min, not, pos, negsuc, int_lt}
use Rattle.std.specs.List.{sum_by}
use Rattle.rstar_base.specs.Counts.{usize_max}
use Rattle.rstar_base.specs.declared.primitives.Rectangle.{Rectangle}
use Rattle.rstar.specs.Boxes.{box_contains_point, box_of_corners, boxes_intersect, contains_box}
use Rattle.rstar.specs.Gaps.{gap_sum}
use Rattle.rstar.specs.Points.{table}
use Rattle.rstar.specs.Rectangles.{box_or_empty}
use Rattle.rstar.specs.Segments.{coordinate}
use Rattle.rstar.specs.SelfJoins.{pairs_behind}

-- the ends of the scalar
abbrev pub low : ℤ
low = negsuc 9223372036854775807

abbrev pub high : ℤ
high = pos 9223372036854775807

-- a rectangle, kept as two corners, and its number
abbrev pub Numbered : Type 0
Numbered = Rectangle (List ℤ) × ℕ

-- the rectangle between two opposite corners, with a number
abbrev pub fence_of : ℕ → List ℤ → List ℤ → Numbered
fence_of number one other = (
  record {
    lower = map (λ side. side.0) (box_of_corners 2 (coordinate one) (coordinate other));
    upper = map (λ side. side.1) (box_of_corners 2 (coordinate one) (coordinate other));
  },
  number,
)

-- where it lies: an interval for each of two axes
abbrev pub box_of : Numbered → List (ℤ × ℤ)
box_of r = box_or_empty low high 2 (coordinate r.0.lower) (coordinate r.0.upper)

-- whether it contains a point, borders included
abbrev pub covers : List ℤ → Numbered → Bool
covers point r = box_contains_point (box_of r) (table 2 (coordinate point))

-- whether it lies inside a box, borders included
abbrev pub lies_in : List (ℤ × ℤ) → Numbered → Bool
lies_in area r = contains_box area (box_of r)

-- how many these are, and the sum of their numbers, both clamped to the greatest `u64`
abbrev pub count_and_sum : {R : Type 0} → List (R × ℕ) → ℕ × ℕ
count_and_sum rs = (min (length rs) usize_max, min (sum_by (λ r. r.1) rs) usize_max)

-- whether two lie over each other that have two numbers; touching is enough
abbrev pub overlap : Numbered × Numbered → Bool
overlap pair = boxes_intersect (box_of pair.0) (box_of pair.1) && not (pair.0.1 == pair.1.1)

-- all pairs of one and one behind it that do
abbrev pub overlaps : List Numbered → List (Numbered × Numbered)
overlaps rs = filter overlap (pairs_behind rs)

-- whether it stands nearer to a box than a squared limit: by the squares of the gaps of both axes, added up
abbrev pub is_nearer : ℤ → List (ℤ × ℤ) → Numbered → Bool
is_nearer limit area r = int_lt (pos (gap_sum area (box_of r))) limit
