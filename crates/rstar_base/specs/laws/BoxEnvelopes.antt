-- Boxes keep the laws of envelopes.
use Rattle.std.specs.Prelude.{◌<ℤ◌, ℕ, ℤ, pos}
use Rattle.rstar_base.specs.Points.{IsPoint}
use Rattle.rstar_base.specs.Boxes.{merge_boxes}
use Rattle.rstar_base.specs.laws.BoxLaws.{merge-comm, merge-assoc, merge-unit, merge-empty-left, merge-empty-right, merge-box, empty-box, merge-contains, contains-refl, contains-trans, contains-point, contains-intersects, intersects-sym, intersects-self, low_le_high, long_same}
use Rattle.rstar_base.specs.laws.DistanceLaws.{box_distance-up, box_min_max-merge}
use Rattle.rstar_base.specs.BoxData.{box_data}
use Rattle.rstar_base.specs.Envelopes.{EnvelopeLaws}

pub box_laws : (low high : ℤ) (n : ℕ) → low <ℤ pos 0 → pos 0 <ℤ high
    → EnvelopeLaws (IsPoint low high n) (box_data low high n)
box_laws low high n hl hh = record {
  empty_value = empty-box low high n (low_le_high _ _ hl hh);
  merge_value = λ a b h k. merge-box low high n a b h k;
  merge_comm = λ a b _ _. merge-comm a b;
  merge_assoc = λ a b c _ _ _. merge-assoc a b c;
  merge_empty = λ a h. merge-unit low high n a h.long h.ranged;
  merge_is_empty = λ a b _ _ e. (merge-empty-left a b e, merge-empty-right a b e);
  empty_same = λ a h e. h.shape e;
  merge_contains = λ a b h k. merge-contains a b (long_same low high n _ _ h k);
  merge_contains_point = λ a b p _ h k c. contains-point _ a p (merge-contains a b (long_same low high n _ _ h k)) c;
  merge_intersects = λ a b c h k _ i. contains-intersects _ a c (merge-contains a b (long_same low high n _ _ h k)) i;
  contains_refl = λ a _. contains-refl a;
  contains_trans = λ a b c _ _ _ h k. contains-trans a b c h k;
  intersects_sym = λ a b _ _ h. intersects-sym a b h;
  contains_intersects = λ a b _ _ h e. contains-intersects a b b h (intersects-self b e);
  merge_distance =
      λ a b p _ h k e. box_distance-up high (merge_boxes a b) a p (merge-contains a b (long_same low high n _ _ h k)) e;
  merge_min_max = λ a b p _ h k e f. box_min_max-merge high a b p (long_same low high n _ _ h k) e f;
}
