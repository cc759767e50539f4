-- Envelopes with a count of the elements merged into them.
use Rattle.std.specs.Prelude.{◌≡◌, ◌≢◌, ◌+◌, ◌≤◌, ◌==◌, ℕ, min, false}
use Rattle.rstar_base.specs.Envelopes.{Boxes}
use Rattle.rstar_base.specs.Elements.{Objects}

-- the greatest `usize`
abbrev pub usize_max : ℕ
usize_max = 18446744073709551615

-- a value of the counted type: the count fits a `usize`, and it is 0 exactly for the empty envelope
pub record IsCounted {E : Type 0} (v : Boxes E) (e : E) (count : ℕ) : Type 0 where
  pub inside : v.IsValue e
  pub fits : count ≤ usize_max
  pub none : count ≡ 0 → e ≡ v.empty
  pub some : count ≢ 0 → v.is_empty e ≡ false

-- an envelope type with counts: merging adds the counts, clamped to the greatest `usize`, and an envelope is empty
-- where its count is 0; everything else is as of the envelope
abbrev pub counted_boxes : {E : Type 0} → Boxes E → Boxes (E × ℕ)
counted_boxes v = record {
  IsValue = λ c. IsCounted v c.0 c.1;
  empty = (v.empty, 0);
  is_empty = λ c. c.1 == 0;
  contains_point = λ c. v.contains_point c.0;
  contains = λ a b. v.contains a.0 b.0;
  merge = λ a b. (v.merge a.0 b.0, min (a.1 + b.1) usize_max);
  intersects = λ a b. v.intersects a.0 b.0;
  area = λ c. v.area c.0;
  intersection_area = λ a b. v.intersection_area a.0 b.0;
  distance_2 = λ c. v.distance_2 c.0;
  min_max_dist_2 = λ c. v.min_max_dist_2 c.0;
  center = λ c. v.center c.0;
  perimeter = λ c. v.perimeter c.0;
  axis_key = λ c. v.axis_key c.0;
}

-- an element type whose elements each count once
abbrev pub counted_objects : {T E : Type 0} → Boxes E → Objects T E → Objects T (E × ℕ)
counted_objects v o =
    record { IsValue = λ t. o.IsValue t × IsCounted v (o.box_of t) 1; box_of = λ t. (o.box_of t, 1) }
