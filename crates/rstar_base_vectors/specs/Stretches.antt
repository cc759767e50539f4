-- Stretches of the number line with a level, as envelopes.
use Rattle.std.specs.Prelude.{◌≡◌, ◌&&◌, ◌*◌, ◌+ℤ◌, ◌-ℤ◌, ℕ, ℤ, true, List, [], ◌∷◌, pos, negsuc, min, max, int_le, int_lt, int_div, unsigned_abs, slice_index_or}
use Rattle.std.specs.Int.{int_min, int_max}
use Rattle.rstar_base.specs.Scalars.{InRange}
use Rattle.rstar_base.specs.Envelopes.{Boxes}

-- the ends of the scalar
abbrev pub greatest_number : ℕ
greatest_number = 9223372036854775807

abbrev pub low : ℤ
low = negsuc 9223372036854775807

abbrev pub high : ℤ
high = pos 9223372036854775807

-- how far u lies above l
abbrev pub length_between : ℤ → ℤ → ℕ
length_between l u = unsigned_abs (int_max (pos 0) (u -ℤ l))

-- how far q lies from the numbers between l and u
abbrev pub gap_between : ℤ → ℤ → ℤ → ℕ
gap_between l u q = max (length_between q l) (length_between u q)

-- how far q lies from the nearer of two ends
abbrev pub nearer_end : ℤ → ℤ → ℤ → ℕ
nearer_end l u q = min (gap_between l l q) (gap_between u u q)

-- the square, held at the greatest number
abbrev pub held_square : ℕ → ℕ → ℕ
held_square top x = min (x * x) top

abbrev pub empty_stretch : ℤ × ℤ × ℕ
empty_stretch = (high, low, 0)

-- both ends are numbers of the scalar, and they are in order or all is as in the empty stretch
pub record IsStretch (s : ℤ × ℤ × ℕ) : Type 0 where
  pub first : InRange low high s.0
  pub last : InRange low high s.1
  pub shape : int_lt s.1 s.0 ≡ true → s ≡ empty_stretch

abbrev pub merge_stretches : ℤ × ℤ × ℕ → ℤ × ℤ × ℕ → ℤ × ℤ × ℕ
merge_stretches a b = (int_min a.0 b.0, int_max a.1 b.1, max a.2 b.2)

-- the number that a point of one axis is
abbrev pub number_of : List ℤ → ℤ
number_of p = slice_index_or p 0 (pos 0)

abbrev pub stretch_data : Boxes (ℤ × ℤ × ℕ)
stretch_data = record {
  IsValue = IsStretch;
  empty = empty_stretch;
  is_empty = λ a. int_lt a.1 a.0;
  contains_point = λ a p. int_le a.0 (number_of p) && int_le (number_of p) a.1;
  contains = λ a b. int_le a.0 b.0 && int_le b.1 a.1;
  merge = merge_stretches;
  intersects = λ a b. int_le a.0 b.1 && int_le b.0 a.1;
  area = λ a. min (length_between a.0 a.1) greatest_number;
  intersection_area = λ a b. min (length_between (int_max a.0 b.0) (int_min a.1 b.1)) greatest_number;
  distance_2 = λ a p. held_square greatest_number (gap_between a.0 a.1 (number_of p));
  min_max_dist_2 = λ a p. held_square greatest_number (nearer_end a.0 a.1 (number_of p));
  center = λ a. int_div (a.0 +ℤ a.1) (pos 2) ∷ [];
  perimeter = λ a. min (length_between a.0 a.1) greatest_number;
  axis_key = λ a i. a.0;
}
