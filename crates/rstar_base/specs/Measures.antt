-- Areas, perimeters and centres of boxes.
use Rattle.std.specs.Prelude.{◌+◌, ◌*◌, ◌+ℤ◌, ◌-ℤ◌, ℕ, ℤ, List, [], ◌∷◌, map, pos, unsigned_abs, int_div}
use Rattle.std.specs.Int.{int_min, int_max}

-- the length of an interval; 0 where its bounds are out of order
abbrev pub extent : ℤ × ℤ → ℕ
extent x = unsigned_abs (int_max (pos 0) (x.1 -ℤ x.0))

-- the area of a box: the product of its extents; 1 without an axis
abbrev pub extent_product : List (ℤ × ℤ) → ℕ
extent_product [] = 1
extent_product (x ∷ xs) = extent x * extent_product xs

-- the perimeter value of a box: the sum of its extents
abbrev pub extent_sum : List (ℤ × ℤ) → ℕ
extent_sum [] = 0
extent_sum (x ∷ xs) = extent x + extent_sum xs

-- the intersection of two boxes; its bounds are out of order where they do not intersect
abbrev pub overlap : List (ℤ × ℤ) → List (ℤ × ℤ) → List (ℤ × ℤ)
overlap [] ys = []
overlap (x ∷ xs) [] = []
overlap (x ∷ xs) (y ∷ ys) = (int_max x.0 y.0, int_min x.1 y.1) ∷ overlap xs ys

-- the center of a box, truncated toward zero on each axis
abbrev pub box_center : List (ℤ × ℤ) → List ℤ
box_center b = map (λ (x : ℤ × ℤ). int_div (x.0 +ℤ x.1) (pos 2)) b
