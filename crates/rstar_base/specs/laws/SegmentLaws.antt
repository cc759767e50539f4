-- A segment keeps the laws of elements.
use Rattle.std.specs.Prelude.{◌≡◌, ◌*◌, ◌/◌, ◌<◌, ◌≤◌, ◌≤ℤ◌, ◌<ℤ◌, ◌+ℤ◌, ◌-ℤ◌, ◌*ℤ◌, ◌&&◌, ℕ, ℤ, Bool, true, false, zero, suc, List, [], ◌∷◌, length, min, pos, nat_le, int_le, int_lt, int_div, unsigned_abs, if◌then◌else◌}
use Rattle.std.specs.Int.{int_min, int_max}
use Rattle.std.proofs.Common.{refl, arith, sym, ◌∙◌, negsuc, neg_ℤ}
use Rattle.std.proofs.lemmas.Int.{ints, clamps}
use Rattle.std.proofs.lemmas.Bool.Decides.{nat_tests}
use Rattle.std.proofs.Math.Nat.{div-le_of_le-mul, mul-le-mul_left, zero-div}
use Rattle.rstar_base.specs.Points.{IsPoint}
use Rattle.rstar_base.specs.laws.PointLemmas.{and_parts, table-long}
use Rattle.rstar_base.specs.Boxes.{between_corners, box_of_corners, merge_boxes, box_contains_point, is_empty_box}
use Rattle.rstar_base.specs.laws.BoxLaws.{corners-merge, corners-upright, le_same}
use Rattle.rstar_base.specs.Sums.{sum_below}
use Rattle.rstar_base.specs.Distances.{square_apart, nearest_on_axis, distance_sum, far_sum, faces_at, box_distance, box_min_max}
use Rattle.rstar_base.specs.laws.DistanceLaws.{square_up, box_min_max-merge}
use Rattle.rstar_base.specs.laws.Leasts.{least-above}
use Rattle.rstar_base.specs.laws.RectangleLaws.{hull-filled}
use Rattle.rstar_base.specs.BoxData.{box_data}
use Rattle.rstar_base.specs.Elements.{DistanceLaws}
use Rattle.rstar_base.specs.Segments.{coordinate, point_apart, along, length_squared, interior, has_interior, nearer, nearest_of_segment, segment_distance, segment_objects, segment_distances}

-- ---- a point between two corners is no nearer than their box

nearest-apart : (l u c q : ℤ) → (l ≤ℤ c) × (c ≤ℤ u) → square_apart q (nearest_on_axis (l, u) q) ≤ square_apart q c
nearest-apart l u c q h = square_up _ _ (grind (arith, ints))

box-nearer : (n : ℕ) (l u c : ℕ → ℤ) (p : List ℤ) → ((i : ℕ) → i < n → (l i ≤ℤ c i) × (c i ≤ℤ u i))
    → distance_sum (between_corners n l u) p ≤ sum_below n (λ i. square_apart (coordinate p i) (c i))
box-nearer (suc n) l u c (q ∷ qs) h =
    omega (
      arith,
      nearest-apart (l zero) (u zero) (c zero) q (h zero (omega arith)),
      box-nearer n (λ i. l (suc i)) (λ i. u (suc i)) (λ i. c (suc i)) qs (λ i k. h (suc i) (omega arith)),
    )
box-nearer n l u c p h = omega arith

-- ---- each candidate lies between the ends

part-least : (m t len : ℕ) → t ≤ len → (m * t) / len ≤ m
part-least m t len h = div-le_of_le-mul len (omega (arith, mul-le-mul_left m h))

part-negative : (a len : ℕ) → int_div (neg_ℤ (pos a)) (pos len) ≡ neg_ℤ (pos (a / len))
part-negative zero len = rw (zero-div len) refl
part-negative (suc a) len = refl

-- the part t / len of d, for t below len, lies between 0 and d
part-between : (d : ℤ) (t len : ℕ) → t ≤ len
    → (int_min (pos 0) d ≤ℤ int_div (d *ℤ pos t) (pos len)) × (int_div (d *ℤ pos t) (pos len) ≤ℤ int_max (pos 0) d)
part-between (pos m) t len h =
    let l = part-least m t len h in (omega (arith, ints, clamps), omega (arith, ints, clamps))
part-between (negsuc m) t len h =
    let l = part-least (suc m) t len h in
    rw (part-negative (suc m * t) len) (omega (arith, ints, clamps), omega (arith, ints, clamps))

pub step-between : (from to t len : ℤ) → pos 0 <ℤ t → t <ℤ len
    → (int_min from to ≤ℤ (from +ℤ int_div ((to -ℤ from) *ℤ t) len))
    × ((from +ℤ int_div ((to -ℤ from) *ℤ t) len) ≤ℤ int_max from to)
step-between from to (pos t) (pos len) h k =
    let b = part-between (to -ℤ from) t len (omega (arith, ints)) in
    (omega (arith, ints, clamps, b.0), omega (arith, ints, clamps, b.1))
step-between from to t len h k = absurd (omega (arith, ints))

-- an interior point that is considered lies strictly between the ends
interior-after : (low high : ℤ) (n : ℕ) (f g q : ℕ → ℤ) → has_interior low high n f g q ≡ true
    → (pos 0 <ℤ along n f g q) × (along n f g q <ℤ length_squared n f g)
unfolding has_interior
interior-after low high n f g q h =
    let p = and_parts _ _ (and_parts _ _ (and_parts _ _ h).1).0 in (after _ _ p.0, after _ _ p.1)
  where
    after : (a b : ℤ) → int_lt a b ≡ true → a <ℤ b
    after a b h = grind (arith, ints)

-- one of a, b and x, where x counts only under the test t
pick-between : (t s r : Bool) (a b x : ℤ) → (t ≡ true → (int_min a b ≤ℤ x) × (x ≤ℤ int_max a b))
    → (int_min a b ≤ℤ (if t then (if s then (if r then a else b) else x) else (if r then a else b)))
    × ((if t then (if s then (if r then a else b) else x) else (if r then a else b)) ≤ℤ int_max a b)
pick-between t s r a b x h = grind (arith, ints)

module _ (low high : ℤ) (n : ℕ) (f g : ℕ → ℤ) where
  nearest-between : (q : ℕ → ℤ) (i : ℕ)
      → (int_min (f i) (g i) ≤ℤ nearest_of_segment low high n f g q i)
      × (nearest_of_segment low high n f g q i ≤ℤ int_max (f i) (g i))
  unfolding nearest_of_segment nearer interior
  nearest-between q i = pick-between _ _ _ (f i) (g i) _
      (λ e. let p = interior-after low high n f g q e in
      step-between (f i) (g i) (along n f g q) (length_squared n f g) p.0 p.1)

  segment-near : (p : List ℤ)
      → box_distance high (box_of_corners n f g) p ≤ segment_distance low high n f g p
  segment-near p = omega (arith, box-nearer n _ _ _ p (λ i _. nearest-between (coordinate p) i))

-- ---- the nearest point is no farther than either end

pick-apart : (t : Bool) (high : ℤ) (n : ℕ) (a b q : ℕ → ℤ)
    → point_apart high n (λ i. if t then a i else b i) q
    ≡ (if t then point_apart high n a q else point_apart high n b q)
pick-apart true high n a b q = refl
pick-apart false high n a b q = refl

nearer-least : (high : ℤ) (n : ℕ) (q a b : ℕ → ℤ)
    → (point_apart high n (nearer high n q a b) q ≤ point_apart high n a q)
    × (point_apart high n (nearer high n q a b) q ≤ point_apart high n b q)
unfolding nearer
nearer-least high n q a b =
    let e = pick-apart (nat_le (point_apart high n a q) (point_apart high n b q)) high n a b q in
    (grind (arith, nat_tests, e), grind (arith, nat_tests, e))

nearest-least : (low high : ℤ) (n : ℕ) (f g q : ℕ → ℤ)
    → (point_apart high n (nearest_of_segment low high n f g q) q ≤ point_apart high n f q)
    × (point_apart high n (nearest_of_segment low high n f g q) q ≤ point_apart high n g q)
unfolding nearest_of_segment
nearest-least low high n f g q =
    let l = nearer-least high n q f g in
    let m = nearer-least high n q (nearer high n q f g) (interior n f g q) in
    let e = pick-apart (has_interior low high n f g q) high n (nearer high n q (nearer high n q f g) (interior n f g q))
    (nearer high n q f g) q in
    (grind (arith, e, l.0, m.0), grind (arith, e, l.1, m.0))

-- ---- one of the ends is no farther than the min-max distance of the box

point-far : (n : ℕ) (f : ℕ → ℤ) (p : List ℤ) → length p ≡ n
    → sum_below n (λ i. square_apart (coordinate p i) (f i)) ≤ far_sum (between_corners n f f) p
point-far (suc n) f (q ∷ qs) l = omega (arith, point-far n (λ i. f (suc i)) qs (omega arith))
point-far zero f p l = omega arith
point-far n f p l = absurd (omega arith)

point-faces : (k n : ℕ) (f : ℕ → ℤ) (p : List ℤ) → length p ≡ n
    → sum_below n (λ i. square_apart (coordinate p i) (f i)) ≤ faces_at k (between_corners n f f) p
point-faces zero (suc n) f (q ∷ qs) l = omega (arith, point-far n (λ i. f (suc i)) qs (omega arith))
point-faces (suc k) (suc n) f (q ∷ qs) l = omega (arith, point-faces k n (λ i. f (suc i)) qs (omega arith))
point-faces k zero f p l = omega arith
point-faces k n f p l = absurd (omega arith)

point-min_max : (high : ℤ) (n : ℕ) (f : ℕ → ℤ) (p : List ℤ) → length p ≡ n
    → point_apart high n f (coordinate p) ≤ box_min_max high (between_corners n f f) p
point-min_max high zero f p l = omega arith
point-min_max high (suc n) f p l =
    least-above (unsigned_abs high) _ (length (between_corners (suc n) f f)) _ (λ k. point-faces k (suc n) f p l)

-- the box of the ends is the merge of the boxes of both
ends-min_max : (high : ℤ) (n : ℕ) (f g : ℕ → ℤ) (p : List ℤ) → length p ≡ n
    → min (point_apart high n f (coordinate p)) (point_apart high n g (coordinate p))
    ≤ box_min_max high (box_of_corners n f g) p
ends-min_max high n f g p l =
    let filled = λ (h : ℕ → ℤ). corners-upright n h h (λ i _. le_same (h i) (h i) (h i) refl refl) in
    let a = between_corners n f f in
    let b = between_corners n g g in
    let e : box_of_corners n f g ≡ merge_boxes a b = corners-merge n f f g g _ _ (λ _ _. refl) (λ _ _. refl) in
    rw e (omega (
      arith,
      point-min_max high n f p l,
      point-min_max high n g p l,
      box_min_max-merge high a b p (table-long n _ ∙ sym (table-long n _)) (filled f) (filled g),
    ))

segment-within : (low high : ℤ) (n : ℕ) (f g : ℕ → ℤ) (p : List ℤ) → length p ≡ n
    → segment_distance low high n f g p ≤ box_min_max high (box_of_corners n f g) p
segment-within low high n f g p l =
    let a = nearest-least low high n f g (coordinate p) in omega (arith, a.0, a.1, ends-min_max high n f g p l)

-- ---- a box at distance 0 contains the point

no-square : (m : ℕ) → m * m ≡ 0 → m ≡ 0
no-square m h = grind arith

at-none : (x : ℤ × ℤ) (q : ℤ) → int_lt x.1 x.0 ≡ false → square_apart q (nearest_on_axis x q) ≡ 0
    → (int_le x.0 q && int_le q x.1) ≡ true
at-none x q h k = let z = no-square _ k in grind (arith, ints)

contains-at_zero : (b : List (ℤ × ℤ)) (p : List ℤ) → length p ≡ length b → is_empty_box b ≡ false
    → distance_sum b p ≡ 0 → box_contains_point b p ≡ true
contains-at_zero [] [] l h k = refl
contains-at_zero (x ∷ xs) (q ∷ qs) l h k = grind (arith, at-none x q, contains-at_zero xs qs (omega arith))
contains-at_zero b p l h k = absurd (omega arith)

segment-contained : (low high : ℤ) (n : ℕ) (f g : ℕ → ℤ) (p : List ℤ) → pos 0 <ℤ high
    → length p ≡ length (box_of_corners n f g) → int_le (pos (segment_distance low high n f g p)) (pos 0) ≡ true
    → box_contains_point (box_of_corners n f g) p ≡ true
segment-contained low high n f g p hh l h =
    contains-at_zero _ p l (hull-filled n f g) (omega (arith, ints, segment-near low high n f g p, none-left _ h))
  where
    none-left : (m : ℕ) → int_le (pos m) (pos 0) ≡ true → m ≡ 0
    none-left m h = grind (arith, ints)

pub segment_laws : {L : Type 0} (low high : ℤ) (n : ℕ) (from to : L → ℕ → ℤ) → pos 0 <ℤ high
    → DistanceLaws (IsPoint low high n) (box_data low high n) (segment_objects low high n from to)
    (segment_distances low high n from to)
segment_laws low high n from to hh = record {
  near = λ l p _ _ _. segment-near low high n (from l) (to l) p;
  within = λ l p h _ _. segment-within low high n (from l) (to l) p h.long;
  contained = λ l p h v c. segment-contained low high n (from l) (to l) p hh (h.long ∙ sym v.long) c;
}
