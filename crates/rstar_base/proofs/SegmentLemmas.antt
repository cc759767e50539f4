-- What the functions on segments compute, over plain numbers.
use Rattle.std.proofs.Common.{◌≡◌, ◌<ℤ◌, ◌≤ℤ◌, ◌+ℤ◌, ◌-ℤ◌, ◌*ℤ◌, ◌<◌, ◌+◌, ℤ, ℕ, suc, zero, pos, Bool, true, false, Option, Some, None, MatchOption, min, unsigned_abs, refl, ap, sym, ◌∙◌, arith, subst, add-one}
use Rattle.std.specs.Prelude.{int_le, int_lt, int_div, nat_le, is_some, ◌&&◌, ◌↔◌, if◌then◌else◌}
use Rattle.std.specs.Int.{int_min, int_max}
use Rattle.std.proofs.lemmas.Int.{ints}
use Rattle.std.proofs.lemmas.Bool.Decides.{nat_tests}
use Rattle.num_traits.specs.Laws.{between, Checks}
use Rattle.rstar_base.specs.Scalars.{InRange}
use Rattle.rstar_base.specs.Points.{table, IsPoint}
use Rattle.std.proofs.lemmas.Bool.{and_right}
use Rattle.rstar_base.specs.laws.PointLemmas.{and_both, table-get, all_below-same}
use Rattle.rstar_base.specs.Boxes.{in_range, box_of_corners, IsBox}
use Rattle.rstar_base.specs.laws.BoxLaws.{corners-box, min_max}
use Rattle.rstar_base.specs.Sums.{sum_below}
use Rattle.rstar_base.specs.laws.SegmentLaws.{step-between}
use Rattle.rstar_base.specs.Segments.{point_apart, dot, direction, along, length_squared, difference_fits, dot_fits, multiple_fits, interior, has_interior, nearer, nearest_of_segment, coordinate, segment_distance}

-- the same on the first n axes
abbrev pub AreSame : {A : Type 0} → ℕ → (ℕ → A) → (ℕ → A) → Type 0
AreSame n f g = (i : ℕ) → i < n → f i ≡ g i

-- ---- what fits

pub fits_within : (low high x : ℤ) → in_range low high x ≡ true → (low ≤ℤ x) × (x ≤ℤ high)
fits_within low high x h = (grind (arith, ints), grind (arith, ints))

pub within_fits : (low high x : ℤ) → (low ≤ℤ x) × (x ≤ℤ high) → in_range low high x ≡ true
within_fits low high x h = grind (arith, ints)

pub none_fits : (low high x : ℤ) → ((low ≤ℤ x) × (x ≤ℤ high) → ⊥) → in_range low high x ≡ false
none_fits low high x h = grind (arith, ints)

pub some_fits : {T : Type 0} (value : T → ℤ) (fits : ℤ → Type 0) (low high x : ℤ) (r : Option T) → fits x ↔ ((low ≤ℤ x) × (x ≤ℤ high)) → Checks value fits x r
    → is_some r ≡ in_range low high x
some_fits value fits low high x None law h = sym (none_fits low high x (λ p. h (law.1 p)))
some_fits value fits low high x (Some y) law h = sym (within_fits low high x (law.0 h.0))

-- a product that fits, and the sum with it
pub sum_of_product : {T : Type 0} (value : T → ℤ) (fits : ℤ → Type 0) (low high sum product x : ℤ) (r : Option T) → (fits (sum +ℤ product) ↔ ((low ≤ℤ (sum +ℤ product)) × ((sum +ℤ product) ≤ℤ high)))
    → in_range low high x ≡ true → product ≡ x → Checks value fits (sum +ℤ product) r
    → MatchOption r ((in_range low high x && in_range low high (sum +ℤ x)) ≡ false) (λ s. ((in_range low high x && in_range low high (sum +ℤ x)) ≡ true) × (value s ≡ (sum +ℤ x)))
sum_of_product value fits low high sum product x None law h e k = rw (← e) (and_right _ _ (none_fits low high (sum +ℤ product) (λ p. k (law.1 p))))
sum_of_product value fits low high sum product x (Some y) law h e k = rw (← e) (and_both _ _ (rw (← e) at h) (within_fits low high (sum +ℤ product) (law.0 k.0)), k.1)

pub exact : (low high z : ℤ) → in_range low high z ≡ true → between z low high ≡ z
exact low high z h = grind (arith, ints)

sum_below-same : (n : ℕ) (f g : ℕ → ℕ) → AreSame n f g → sum_below n f ≡ sum_below n g
sum_below-same zero f g h = refl
sum_below-same (suc n) f g h = omega (arith, h zero (omega arith), sum_below-same n (λ i. f (suc i)) (λ i. g (suc i)) (λ i l. h (suc i) (omega arith)))

-- ---- the same coordinates give the same

dot-same : (n : ℕ) (f g f' g' : ℕ → ℤ) → AreSame n f f' → AreSame n g g' → dot n f g ≡ dot n f' g'
dot-same zero f g f' g' h k = refl
dot-same (suc n) f g f' g' h k = cc (h n (omega arith), k n (omega arith), dot-same n f g f' g' (λ i l. h i (omega arith)) (λ i l. k i (omega arith)))

dot_fits-same : (low high : ℤ) (n : ℕ) (f g f' g' : ℕ → ℤ) → AreSame n f f' → AreSame n g g' → dot_fits low high n f g ≡ dot_fits low high n f' g'
dot_fits-same low high n f g f' g' h k = all_below-same n _ _ (λ i l.
    cc (h i l, k i l, dot-same i f g f' g' (λ j m. h j (omega arith)) (λ j m. k j (omega arith))))

multiple_fits-same : (low high : ℤ) (n : ℕ) (f f' : ℕ → ℤ) (t : ℤ) → AreSame n f f' → multiple_fits low high n f t ≡ multiple_fits low high n f' t
multiple_fits-same low high n f f' t h = all_below-same n _ _ (λ i l. cc (h i l))

point_apart-same : (high : ℤ) (n : ℕ) (a q a' q' : ℕ → ℤ) → AreSame n a a' → AreSame n q q' → point_apart high n a q ≡ point_apart high n a' q'
point_apart-same high n a q a' q' h k = ap (λ s. min s (unsigned_abs high)) (sum_below-same n _ _ (λ i l. cc (h i l, k i l)))

nearer-same : (high : ℤ) (n : ℕ) (q a b q' a' b' : ℕ → ℤ) → AreSame n q q' → AreSame n a a' → AreSame n b b'
    → AreSame n (nearer high n q a b) (nearer high n q' a' b')
unfolding nearer
nearer-same high n q a b q' a' b' h k l i s =
    cc (point_apart-same high n a q a' q' k h, point_apart-same high n b q b' q' l h, k i s, l i s)

-- the point asked about enters by its coordinates on the n axes
module _ (n : ℕ) (f g q q' : ℕ → ℤ) (same : AreSame n q q') where
  along-same : along n f g q ≡ along n f g q'
  along-same = dot-same n (direction f q) _ (direction f q') _ (λ i l. cc (same i l)) (λ i l. refl)

  interior-same : AreSame n (interior n f g q) (interior n f g q')
  unfolding interior
  interior-same i l = cc along-same

  has_interior-same : (low high : ℤ) → has_interior low high n f g q ≡ has_interior low high n f g q'
  unfolding has_interior
  has_interior-same low high =
      cc (
        all_below-same n (λ i. in_range low high (q i -ℤ f i)) (λ i. in_range low high (q' i -ℤ f i)) (λ i l. cc (same i l)),
        dot_fits-same low high n (direction f q) (direction f g) (direction f q') (direction f g) (λ i l. cc (same i l)) (λ i l. refl),
        along-same,
      )

  nearest-same : (low high : ℤ) → AreSame n (nearest_of_segment low high n f g q) (nearest_of_segment low high n f g q')
  unfolding nearest_of_segment
  nearest-same low high i l =
      let ends = nearer-same high n q f g q' f g same (λ _ _. refl) (λ _ _. refl) in
      cc (has_interior-same low high, nearer-same high n q _ _ q' _ _ same ends interior-same i l, ends i l)

-- ---- the nearer of two points

no_farther : (x y : ℤ) (a b : ℕ) (t : Bool) → x ≡ pos a → y ≡ pos b → t ≡ int_le x y → nat_le a b ≡ t
no_farther x y a b t h k e = grind (arith, ints, nat_tests)

pub nearer-chosen : (high : ℤ) (n : ℕ) (q a b : ℕ → ℤ) (x y : ℤ) (t : Bool) → x ≡ pos (point_apart high n a q) → y ≡ pos (point_apart high n b q) → t ≡ int_le x y
    → (i : ℕ) → nearer high n q a b i ≡ (if t then a i else b i)
unfolding nearer
nearer-chosen high n q a b x y t h k e i = rw (no_farther x y _ _ t h k e) refl

pub after_both : (t len : ℤ) → pos 0 <ℤ t → t <ℤ len → pos 0 <ℤ len
after_both t len h k = omega (arith, ints)

-- ---- coordinates in the range

point-at : (low high : ℤ) (n : ℕ) (f : ℕ → ℤ) (i : ℕ) → IsPoint low high n (table n f) → i < n → InRange low high (f i)
point-at low high n f i h l = subst (InRange low high) (table-get n f i (pos 0) l) (h.ranged i (pos 0) (omega (arith, h.long)))

held : (low high a b z : ℤ) → InRange low high a → InRange low high b → int_min a b ≤ℤ z → z ≤ℤ int_max a b → between z low high ≡ z
held low high a b z h k l m = exact low high z (within_fits low high z (grind (arith, ints), grind (arith, ints)))

-- ---- the scalar product, axis by axis

pub dot-next : (i : ℕ) (sum x y s : ℤ) (f g : ℕ → ℤ) → sum ≡ dot i f g → x ≡ f i → y ≡ g i → s ≡ (sum +ℤ x *ℤ y) → s ≡ dot (i + 1) f g
dot-next i sum x y s f g h k l e = rw (add-one, e, h, k, l) refl

pub fits-next : (low high : ℤ) (i : ℕ) (sum x y : ℤ) (b : Bool) (f g : ℕ → ℤ) → sum ≡ dot i f g → x ≡ f i → y ≡ g i → (in_range low high (x *ℤ y) && in_range low high (sum +ℤ x *ℤ y)) ≡ b
    → b ≡ (in_range low high (f i *ℤ g i) && in_range low high (dot (suc i) f g))
fits-next low high i sum x y b f g h k l e = rw (← h, ← k, ← l) (sym e)

-- ---- whether the interior point is considered

-- d and o are the direction and the offset as they were computed
module _ (low high : ℤ) {n : ℕ} (f g q : ℕ → ℤ) {d o : ℕ → ℤ} (hd : AreSame n d (direction f g)) (ho : AreSame n o (direction f q)) where
  is_along : (t : ℤ) → t ≡ dot n o d → t ≡ along n f g q
  is_along t h = h ∙ dot-same n o d _ _ ho hd

  is_length : (len : ℤ) → len ≡ dot n d d → len ≡ length_squared n f g
  is_length len h = h ∙ dot-same n d d _ _ hd hd

  computed : has_interior low high n f g q
      ≡ (((difference_fits low high n g f && difference_fits low high n q f) && (dot_fits low high n o d && dot_fits low high n d d))
      && ((int_lt (pos 0) (dot n o d) && int_lt (dot n o d) (dot n d d)) && multiple_fits low high n d (dot n o d)))
  unfolding has_interior
  computed = cc (
    dot_fits-same low high n o d _ _ ho hd,
    dot_fits-same low high n d d _ _ hd hd,
    dot-same n o d _ _ ho hd,
    dot-same n d d _ _ hd hd,
    multiple_fits-same low high n d (direction f g) (dot n o d) hd,
  )

  pub no_offset_product : dot_fits low high n o d ≡ false → has_interior low high n f g q ≡ false
  no_offset_product h = grind (arith, computed)

  pub no_length : dot_fits low high n d d ≡ false → has_interior low high n f g q ≡ false
  no_length h = grind (arith, computed)

  pub not_inside : (t len : ℤ) → t ≡ dot n o d → len ≡ dot n d d → (int_lt (pos 0) t && int_lt t len) ≡ false → has_interior low high n f g q ≡ false
  not_inside t len h k e = grind (arith, computed)

  pub no_multiple : (t : ℤ) → t ≡ dot n o d → multiple_fits low high n d t ≡ false → has_interior low high n f g q ≡ false
  no_multiple t h e = grind (arith, computed)

  pub all_fit : (t len : ℤ) → t ≡ dot n o d → len ≡ dot n d d → difference_fits low high n g f ≡ true → difference_fits low high n q f ≡ true → dot_fits low high n o d ≡ true → dot_fits low high n d d ≡ true
      → (int_lt (pos 0) t && int_lt t len) ≡ true → multiple_fits low high n d t ≡ true → has_interior low high n f g q ≡ true
  all_fit t len h k a b p r s m = grind (arith, computed)

  -- the clamped steps are the interior point, since it lies between the ends
  pub stepped-interior : (t len : ℤ) → t ≡ dot n o d → len ≡ dot n d d → pos 0 <ℤ t → t <ℤ len → IsPoint low high n (table n f) → IsPoint low high n (table n g)
      → (i : ℕ) → i < n → between (f i +ℤ int_div (d i *ℤ t) len) low high ≡ interior n f g q i
  unfolding interior
  stepped-interior t len h k p r hf hg i l =
      let b = step-between (f i) (g i) t len p r in
      rw (hd i l, ← is_along t h, ← is_length len k) (held low high (f i) (g i) _ (point-at low high n f i hf l) (point-at low high n g i hg l) b.0 b.1)

module _ (low high : ℤ) (n : ℕ) (f g q : ℕ → ℤ) where
  pub no_direction : difference_fits low high n g f ≡ false → has_interior low high n f g q ≡ false
  unfolding has_interior
  no_direction h = grind arith

  pub no_offset : difference_fits low high n q f ≡ false → has_interior low high n f g q ≡ false
  unfolding has_interior
  no_offset h = grind arith

pub inside_parts : (t len : ℤ) → (int_lt (pos 0) t && int_lt t len) ≡ true → (pos 0 <ℤ t) × (t <ℤ len)
inside_parts t len h = (grind (arith, ints), grind (arith, ints))

-- ---- the nearest point

pub nearest-inside : (low high : ℤ) (n : ℕ) (f g q e p : ℕ → ℤ) → has_interior low high n f g q ≡ true
    → AreSame n e (nearer high n q f g) → AreSame n p (interior n f g q)
    → AreSame n (nearer high n q e p) (nearest_of_segment low high n f g q)
unfolding nearest_of_segment
nearest-inside low high n f g q e p h k m i l = rw h (nearer-same high n q e p q _ _ (λ _ _. refl) k m i l)

pub nearest-end : (low high : ℤ) (n : ℕ) (f g q : ℕ → ℤ) (x : ℤ) (i : ℕ) → has_interior low high n f g q ≡ false → x ≡ nearer high n q f g i → x ≡ nearest_of_segment low high n f g q i
unfolding nearest_of_segment
nearest-end low high n f g q x i h k = rw h k

-- a point that agrees with the nearest one is at the segment's distance
pub distance-at : (low high : ℤ) (n : ℕ) (f g q c : ℕ → ℤ) → AreSame n c (nearest_of_segment low high n f g q)
    → point_apart high n c q ≡ segment_distance low high n f g (table n q)
distance-at low high n f g q c h =
    let listed : (i : ℕ) → i < n → q i ≡ coordinate (table n q) i = λ i l. sym (table-get n q i (pos 0) l) in
    point_apart-same high n c q _ _ (λ i l. h i l ∙ nearest-same n f g q _ listed low high i l) listed

-- ---- the box of the ends

in_between : (low high a b : ℤ) → InRange low high a → InRange low high b → InRange low high (int_min a b) × InRange low high (int_max a b)
in_between low high a b h k = (grind (arith, ints), grind (arith, ints))

pub corners_of-box : (low high : ℤ) (n : ℕ) (f g : ℕ → ℤ) → ((i : ℕ) → i < n → InRange low high (f i)) → ((i : ℕ) → i < n → InRange low high (g i)) → IsBox low high n (box_of_corners n f g)
corners_of-box low high n f g h k = corners-box low high n _ _
    (λ i l. (in_between low high (f i) (g i) (h i l) (k i l)).0) (λ i l. (in_between low high (f i) (g i) (h i l) (k i l)).1) (λ i _. min_max _ _ (f i) (g i) refl refl)

pub still_ranged : (low high : ℤ) (n : ℕ) (f f' : ℕ → ℤ) → AreSame n f' f → ((i : ℕ) → i < n → InRange low high (f' i)) → (i : ℕ) → i < n → InRange low high (f i)
still_ranged low high n f f' h k i l = subst (InRange low high) (h i l) (k i l)
