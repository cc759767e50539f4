-- The nearest point of a segment. A point is a function from axes to coordinates, a segment is its two ends.
use Rattle.std.specs.Prelude.{◌+ℤ◌, ◌-ℤ◌, ◌*ℤ◌, ◌&&◌, ℕ, ℤ, Bool, zero, suc, List, min, pos, nat_le, int_le, int_lt, int_div, unsigned_abs, slice_index_or, if◌then◌else◌}
use Rattle.rstar_base.specs.Points.{all_below}
use Rattle.rstar_base.specs.Boxes.{in_range, box_of_corners, IsBox}
use Rattle.rstar_base.specs.Elements.{Objects, Distances}
use Rattle.rstar_base.specs.Sums.{sum_below}
use Rattle.rstar_base.specs.Distances.{square_apart}

-- the coordinates of a point, from their list
abbrev pub coordinate : List ℤ → ℕ → ℤ
coordinate p i = slice_index_or p i (pos 0)

-- the squared distance of two points, clamped to the greatest scalar
abbrev pub point_apart : ℤ → ℕ → (ℕ → ℤ) → (ℕ → ℤ) → ℕ
point_apart high n c q = min (sum_below n (λ i. square_apart (q i) (c i))) (unsigned_abs high)

-- the scalar product over the first n axes
abbrev pub dot : ℕ → (ℕ → ℤ) → (ℕ → ℤ) → ℤ
dot zero f g = pos 0
dot (suc n) f g = dot n f g +ℤ f n *ℤ g n

-- whether each difference to - from fits the scalar
abbrev pub difference_fits : ℤ → ℤ → ℕ → (ℕ → ℤ) → (ℕ → ℤ) → Bool
difference_fits low high n to from = all_below n (λ i. in_range low high (to i -ℤ from i))

-- whether each product of a scalar product and each running sum fits the scalar
abbrev pub dot_fits : ℤ → ℤ → ℕ → (ℕ → ℤ) → (ℕ → ℤ) → Bool
dot_fits low high n f g = all_below n (λ i. in_range low high (f i *ℤ g i) && in_range low high (dot (suc i) f g))

-- whether each multiple of the direction fits the scalar
abbrev pub multiple_fits : ℤ → ℤ → ℕ → (ℕ → ℤ) → ℤ → Bool
multiple_fits low high n dir t = all_below n (λ i. in_range low high (dir i *ℤ t))

-- the direction of a segment
abbrev pub direction : (ℕ → ℤ) → (ℕ → ℤ) → ℕ → ℤ
direction from to i = to i -ℤ from i

-- the scalar product of q - from and the direction: how far along the segment q lies, times the length
abbrev pub along : ℕ → (ℕ → ℤ) → (ℕ → ℤ) → (ℕ → ℤ) → ℤ
along n from to q = dot n (direction from q) (direction from to)

-- the squared length of a segment
abbrev pub length_squared : ℕ → (ℕ → ℤ) → (ℕ → ℤ) → ℤ
length_squared n from to = dot n (direction from to) (direction from to)

-- the interior point: the projection of q, its steps truncated toward `from`
unfoldable pub interior : ℕ → (ℕ → ℤ) → (ℕ → ℤ) → (ℕ → ℤ) → ℕ → ℤ
interior n from to q i = from i +ℤ int_div (direction from to i *ℤ along n from to q) (length_squared n from to)

-- whether the interior point counts: it lies strictly between the ends, and its computation fits the scalar
unfoldable pub has_interior : ℤ → ℤ → ℕ → (ℕ → ℤ) → (ℕ → ℤ) → (ℕ → ℤ) → Bool
has_interior low high n from to q =
    ((difference_fits low high n to from && difference_fits low high n q from)
    && (dot_fits low high n (direction from q) (direction from to)
    && dot_fits low high n (direction from to) (direction from to)))
    && ((int_lt (pos 0) (along n from to q) && int_lt (along n from to q) (length_squared n from to))
    && multiple_fits low high n (direction from to) (along n from to q))

-- the nearer of two points; the first where they are equally near
unfoldable pub nearer : ℤ → ℕ → (ℕ → ℤ) → (ℕ → ℤ) → (ℕ → ℤ) → ℕ → ℤ
nearer high n q a b i = if nat_le (point_apart high n a q) (point_apart high n b q) then a i else b i

-- the nearest point of a segment: the first nearest of `from`, `to` and the interior point
unfoldable pub nearest_of_segment : ℤ → ℤ → ℕ → (ℕ → ℤ) → (ℕ → ℤ) → (ℕ → ℤ) → ℕ → ℤ
nearest_of_segment low high n from to q i =
    if has_interior low high n from to q
    then nearer high n q (nearer high n q from to) (interior n from to q) i
    else nearer high n q from to i

-- the squared distance of a segment: that of its nearest point
abbrev pub segment_distance : ℤ → ℤ → ℕ → (ℕ → ℤ) → (ℕ → ℤ) → List ℤ → ℕ
segment_distance low high n from to p =
    point_apart high n (nearest_of_segment low high n from to (coordinate p)) (coordinate p)

-- segments as elements: the envelope is the bounding box of the ends
abbrev pub segment_objects : {L : Type 0} → ℤ → ℤ → ℕ → (L → ℕ → ℤ) → (L → ℕ → ℤ) → Objects L (List (ℤ × ℤ))
segment_objects low high n from to = record {
  IsValue = λ l. IsBox low high n (box_of_corners n (from l) (to l));
  box_of = λ l. box_of_corners n (from l) (to l);
}

-- the distance is that of the nearest point; a point at distance 0 is contained
abbrev pub segment_distances : {L : Type 0} → ℤ → ℤ → ℕ → (L → ℕ → ℤ) → (L → ℕ → ℤ) → Distances L
segment_distances low high n from to = record {
  distance_2 = λ l p. segment_distance low high n (from l) (to l) p;
  contains_point = λ l p. int_le (pos (segment_distance low high n (from l) (to l) p)) (pos 0);
}
