-- Bounding boxes as envelopes.
use Rattle.std.specs.Prelude.{ℕ, ℤ, List, min, pos, unsigned_abs, slice_index_or}
use Rattle.rstar_base.specs.Boxes.{is_empty_box, box_contains_point, contains_box, merge_boxes, boxes_intersect, empty_box, IsBox}
use Rattle.rstar_base.specs.Distances.{box_distance, box_min_max}
use Rattle.rstar_base.specs.Measures.{extent_product, extent_sum, overlap, box_center}
use Rattle.rstar_base.specs.Envelopes.{Boxes}

-- the envelope type of boxes with n axes over the scalars from low to high; measures are clamped to high
abbrev pub box_data : ℤ → ℤ → ℕ → Boxes (List (ℤ × ℤ))
box_data low high n = record {
  IsValue = IsBox low high n;
  empty = empty_box low high n;
  is_empty = is_empty_box;
  contains_point = box_contains_point;
  contains = contains_box;
  merge = merge_boxes;
  intersects = boxes_intersect;
  area = λ b. min (extent_product b) (unsigned_abs high);
  intersection_area = λ a b. min (extent_product (overlap a b)) (unsigned_abs high);
  distance_2 = box_distance high;
  min_max_dist_2 = box_min_max high;
  center = box_center;
  perimeter = λ b. min (extent_sum b) (unsigned_abs high);
  axis_key = λ b i. (slice_index_or b i (pos 0, pos 0)).0;
}
