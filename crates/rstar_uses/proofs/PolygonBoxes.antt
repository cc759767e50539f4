-- The box of a polygon, and the points in it.
use Rattle.std.proofs.Common.{◌≡◌, ◌∙◌, ◌∷◌, ◌<◌, ◌&&◌, ◌||◌, ℕ, ℤ, Bool, true, false, List, [], pos, negsuc, length, int_lt, refl, ap, arith}
use Rattle.std.specs.Int.{int_min, int_max}
use Rattle.std.proofs.lemmas.Int.{ints}
use Rattle.rstar_base.specs.Boxes.{box_contains_point, is_empty_box, merge_boxes, between_corners, IsBox}
use Rattle.rstar_base.specs.Points.{table}
use Rattle.rstar_base.specs.Segments.{coordinate}
use Rattle.rstar_base.specs.laws.BoxLaws.{contains-point, merge-contains, long_same}
use Rattle.rstar_uses.specs.Polygons.{x_of, y_of, contains, bounds_of}
use Rattle.rstar_uses.proofs.Rings.{least, greatest, within_bounds}

abbrev low : ℤ
low = negsuc 9223372036854775807

abbrev high : ℤ
high = pos 9223372036854775807

-- its intervals
abbrev sides : List (List ℤ) → List (ℤ × ℤ)
sides corners = (least x_of high corners, greatest x_of low corners) ∷ (least y_of high corners, greatest y_of low corners) ∷ []

bounds-are : (corners : List (List ℤ)) → bounds_of corners ≡ sides corners
bounds-are [] = refl
bounds-are (c ∷ corners) = ap (merge_boxes (between_corners 2 (coordinate c) (coordinate c))) (bounds-are corners)

-- it contains what the polygon contains
pub bounded : (p : List ℤ) (corners : List (List ℤ)) → contains p corners ≡ true → box_contains_point (bounds_of corners) (table 2 (coordinate p)) ≡ true
bounded p corners h =
    ap (λ b. box_contains_point b (table 2 (coordinate p))) (bounds-are corners) ∙ ended _ _ (within_bounds low high p corners h)
  where
    ended : (a b : Bool) → (a && b) ≡ true → (a && (b && true)) ≡ true
    ended true true h = refl
    ended true false h = h
    ended false b h = h

-- so does a box into which it was merged
pub merged : (p : List ℤ) (corners : List (List ℤ)) (e : List (ℤ × ℤ)) → IsBox low high 2 (bounds_of corners) → IsBox low high 2 e → contains p corners ≡ true
    → box_contains_point (merge_boxes (bounds_of corners) e) (table 2 (coordinate p)) ≡ true
merged p corners e box other h =
    contains-point _ (bounds_of corners) (table 2 (coordinate p)) (merge-contains (bounds_of corners) e (long_same low high 2 _ _ box other)) (bounded p corners h)

-- a point outside of it is outside of the polygon
pub box-first : (p : List ℤ) (now : ℕ × List (List ℤ)) (number : ℕ) (corners : List (List ℤ)) (box : List (ℤ × ℤ)) (t : Bool) → (number, corners) ≡ now → box ≡ bounds_of corners
    → t ≡ box_contains_point box (table 2 (coordinate p)) → t ≡ false → t ≡ contains p now.1
box-first p now number corners box t shown are is off = by (contains p corners) refl ∙ ap (λ (n : ℕ × List (List ℤ)). contains p n.1) shown
  where
    by : (b : Bool) → contains p corners ≡ b → t ≡ b
    by true e = is ∙ ap (λ b. box_contains_point b (table 2 (coordinate p))) are ∙ bounded p corners e
    by false e = off

-- the box of a corner and more is not empty
pub not-empty : (corners : List (List ℤ)) → 0 < length corners → is_empty_box (bounds_of corners) ≡ false
not-empty [] some = absurd (omega arith)
not-empty (c ∷ corners) some =
    ap is_empty_box (bounds-are (c ∷ corners)) ∙ upright (x_of c) (y_of c) (least x_of high corners) (greatest x_of low corners) (least y_of high corners) (greatest y_of low corners)
  where
    upright : (x y a b c d : ℤ) → (int_lt (int_max x b) (int_min x a) || (int_lt (int_max y d) (int_min y c) || false)) ≡ false
    upright x y a b c d = grind (arith, ints)
