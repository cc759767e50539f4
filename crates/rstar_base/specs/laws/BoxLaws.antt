-- The laws of boxes. Each goes interval by interval: `grind` proves it of one, from the law of the intervals after it.
use Rattle.std.specs.Prelude.{◌≡◌, ◌&&◌, ◌||◌, ◌-◌, ◌<◌, ◌<ℤ◌, ℕ, ℤ, Bool, true, false, not, zero, suc, List, [], ◌∷◌, length, pos, int_le}
use Rattle.std.specs.Int.{int_min, int_max}
use Rattle.std.proofs.Common.{refl, arith, sym, ◌∙◌}
use Rattle.std.proofs.lemmas.Int.{ints}
use Rattle.rstar_base.specs.Points.{table, all_below}
use Rattle.rstar_base.specs.laws.PointLemmas.{table-same, table-long}
use Rattle.rstar_base.specs.Scalars.{InRange}
use Rattle.rstar_base.specs.Boxes.{between_corners, merge_axis, merge_boxes, is_empty_box, contains_box, box_contains_point, boxes_intersect, empty_box, all_in_range, IsBox}

pub or_parts : (a b : Bool) → (a || b) ≡ false → (a ≡ false) × (b ≡ false)
or_parts a b h = grind arith

pub differ : (b : Bool) → b ≡ true → b ≡ false → ⊥
differ b h k = cc

pub merge_axis-comm : (x y : ℤ × ℤ) → merge_axis x y ≡ merge_axis y x
merge_axis-comm x y = grind (arith, ints)

pub merge-comm : (a b : List (ℤ × ℤ)) → merge_boxes a b ≡ merge_boxes b a
merge-comm (x ∷ xs) (y ∷ ys) = cc (merge_axis-comm x y, merge-comm xs ys)
merge-comm [] (y ∷ ys) = refl
merge-comm a b = refl

pub merge-assoc : (a b c : List (ℤ × ℤ)) → merge_boxes (merge_boxes a b) c ≡ merge_boxes a (merge_boxes b c)
merge-assoc (x ∷ xs) (y ∷ ys) (z ∷ zs) = let ih = merge-assoc xs ys zs in grind (arith, ints)
merge-assoc a b c = refl

pub merge-long : (n : ℕ) (a b : List (ℤ × ℤ)) → length a ≡ n → length b ≡ n → length (merge_boxes a b) ≡ n
merge-long n (x ∷ xs) (y ∷ ys) h k = omega (arith, merge-long (n - 1) xs ys (omega arith) (omega arith))
merge-long n a b h k = omega arith

pub merge-keeps : (a b : List (ℤ × ℤ)) → is_empty_box a ≡ false → is_empty_box (merge_boxes a b) ≡ false
merge-keeps (x ∷ xs) (y ∷ ys) h = let ih = merge-keeps xs ys in grind (arith, ints)
merge-keeps a b h = refl

pub merge-empty-left : (a b : List (ℤ × ℤ)) → is_empty_box (merge_boxes a b) ≡ true → is_empty_box a ≡ true
merge-empty-left a b h = grind (arith, merge-keeps)

pub merge-empty-right : (a b : List (ℤ × ℤ)) → is_empty_box (merge_boxes a b) ≡ true → is_empty_box b ≡ true
merge-empty-right a b h = merge-empty-left b a (rw (merge-comm b a) h)

module _ (low high : ℤ) where
  merge-ranged : (a b : List (ℤ × ℤ)) → all_in_range low high a ≡ true → all_in_range low high b ≡ true
      → all_in_range low high (merge_boxes a b) ≡ true
  merge-ranged (x ∷ xs) (y ∷ ys) h k = let ih = merge-ranged xs ys in grind (arith, ints)
  merge-ranged a b h k = refl

  pub merge-unit : (n : ℕ) (a : List (ℤ × ℤ)) → length a ≡ n → all_in_range low high a ≡ true
      → merge_boxes (empty_box low high n) a ≡ a
  merge-unit zero [] h k = refl
  merge-unit (suc n) (x ∷ xs) h k = let ih = merge-unit n xs (omega arith) in grind (arith, ints)
  merge-unit n a h k = absurd (omega arith)

  pub merge-box : (n : ℕ) (a b : List (ℤ × ℤ)) → IsBox low high n a → IsBox low high n b
      → IsBox low high n (merge_boxes a b)
  merge-box n a b h k = record {
    long = merge-long n a b h.long k.long;
    ranged = merge-ranged a b h.ranged k.ranged;
    shape = λ e. rw (h.shape (merge-empty-left a b e))
        (merge-unit n b k.long k.ranged ∙ k.shape (merge-empty-right a b e));
  }

  empty-ranged : (n : ℕ) → int_le low high ≡ true → all_in_range low high (empty_box low high n) ≡ true
  empty-ranged zero h = refl
  empty-ranged (suc n) h = let ih = empty-ranged n h in grind (arith, ints)

  pub empty-box : (n : ℕ) → int_le low high ≡ true → IsBox low high n (empty_box low high n)
  empty-box n h = record { long = table-long n _; ranged = empty-ranged n h; shape = λ _. refl }

pub contains-refl : (a : List (ℤ × ℤ)) → contains_box a a ≡ true
contains-refl [] = refl
contains-refl (x ∷ xs) = let ih = contains-refl xs in grind (arith, ints)

pub contains-trans : (a b c : List (ℤ × ℤ)) → contains_box a b ≡ true → contains_box b c ≡ true
    → contains_box a c ≡ true
contains-trans (x ∷ xs) (y ∷ ys) (z ∷ zs) h k = let ih = contains-trans xs ys zs in grind (arith, ints)
contains-trans a b c h k = grind arith

pub merge-contains : (a b : List (ℤ × ℤ)) → length a ≡ length b → contains_box (merge_boxes a b) a ≡ true
merge-contains (x ∷ xs) (y ∷ ys) h = let ih = merge-contains xs ys (omega arith) in grind (arith, ints)
merge-contains a b h = grind arith

pub contains-point : (a b : List (ℤ × ℤ)) (p : List ℤ) → contains_box a b ≡ true → box_contains_point b p ≡ true
    → box_contains_point a p ≡ true
contains-point (x ∷ xs) (y ∷ ys) (z ∷ zs) h k = let ih = contains-point xs ys zs in grind (arith, ints)
contains-point a b p h k = grind arith

pub contains-intersects : (a b c : List (ℤ × ℤ)) → contains_box a b ≡ true → boxes_intersect b c ≡ true
    → boxes_intersect a c ≡ true
contains-intersects (x ∷ xs) (y ∷ ys) (z ∷ zs) h k = let ih = contains-intersects xs ys zs in grind (arith, ints)
contains-intersects a b c h k = grind arith

pub intersects-sym : (a b : List (ℤ × ℤ)) → boxes_intersect a b ≡ true → boxes_intersect b a ≡ true
intersects-sym (x ∷ xs) (y ∷ ys) h = let ih = intersects-sym xs ys in grind (arith, ints)
intersects-sym a b h = grind arith

pub intersects-self : (a : List (ℤ × ℤ)) → is_empty_box a ≡ false → boxes_intersect a a ≡ true
intersects-self [] h = refl
intersects-self (x ∷ xs) h = let ih = intersects-self xs in grind (arith, ints)

-- ---- boxes between corners

pub corners-same : (n : ℕ) (l u l' u' : ℕ → ℤ) → ((i : ℕ) → i < n → l i ≡ l' i) → ((i : ℕ) → i < n → u i ≡ u' i)
    → between_corners n l u ≡ between_corners n l' u'
corners-same n l u l' u' h k = table-same n _ _ (λ i s. cc (h i s, k i s))

corners-merged : (n : ℕ) (l u l' u' : ℕ → ℤ)
    → merge_boxes (between_corners n l u) (between_corners n l' u')
    ≡ between_corners n (λ i. int_min (l i) (l' i)) (λ i. int_max (u i) (u' i))
corners-merged zero l u l' u' = refl
corners-merged (suc n) l u l' u' = simp (corners-merged n)

pub corners-merge : (n : ℕ) (l u l' u' s t : ℕ → ℤ) → ((i : ℕ) → i < n → s i ≡ int_min (l i) (l' i))
    → ((i : ℕ) → i < n → t i ≡ int_max (u i) (u' i))
    → between_corners n s t ≡ merge_boxes (between_corners n l u) (between_corners n l' u')
corners-merge n l u l' u' s t h k = corners-same n s t _ _ h k ∙ sym (corners-merged n l u l' u')

pub corners-contain : (n : ℕ) (l u l' u' : ℕ → ℤ)
    → all_below n (λ i. int_le (l i) (l' i) && int_le (u' i) (u i))
    ≡ contains_box (between_corners n l u) (between_corners n l' u')
corners-contain zero l u l' u' = refl
corners-contain (suc n) l u l' u' = simp (corners-contain n)

pub corners-intersect : (n : ℕ) (l u l' u' : ℕ → ℤ)
    → all_below n (λ i. int_le (l i) (u' i) && int_le (l' i) (u i))
    ≡ boxes_intersect (between_corners n l u) (between_corners n l' u')
corners-intersect zero l u l' u' = refl
corners-intersect (suc n) l u l' u' = simp (corners-intersect n)

pub corners-point : (n : ℕ) (l u p : ℕ → ℤ)
    → all_below n (λ i. int_le (l i) (p i) && int_le (p i) (u i))
    ≡ box_contains_point (between_corners n l u) (table n p)
corners-point zero l u p = refl
corners-point (suc n) l u p = simp (corners-point n)

pub corners-empty : (n : ℕ) (l u : ℕ → ℤ)
    → not (all_below n (λ i. int_le (l i) (u i))) ≡ is_empty_box (between_corners n l u)
corners-empty zero l u = refl
corners-empty (suc n) l u = let ih = corners-empty n (λ i. l (suc i)) (λ i. u (suc i)) in grind (arith, ints)

-- a box between corners that are in the range and not inverted
corners-ranged : (low high : ℤ) (n : ℕ) (l u : ℕ → ℤ) → ((i : ℕ) → i < n → InRange low high (l i))
    → ((i : ℕ) → i < n → InRange low high (u i))
    → all_in_range low high (between_corners n l u) ≡ true
corners-ranged low high zero l u h k = refl
corners-ranged low high (suc n) l u h k =
    let ih = corners-ranged low high n (λ i. l (suc i)) (λ i. u (suc i)) (λ i s. h (suc i) (omega arith))
    (λ i s. k (suc i) (omega arith)) in
    grind (arith, ints, h zero (omega arith), k zero (omega arith))

pub corners-upright : (n : ℕ) (l u : ℕ → ℤ) → ((i : ℕ) → i < n → int_le (l i) (u i) ≡ true)
    → is_empty_box (between_corners n l u) ≡ false
corners-upright zero l u h = refl
corners-upright (suc n) l u h =
    let ih = corners-upright n (λ i. l (suc i)) (λ i. u (suc i)) (λ i s. h (suc i) (omega arith)) in
    grind (arith, ints, h zero (omega arith))

pub corners-box : (low high : ℤ) (n : ℕ) (l u : ℕ → ℤ) → ((i : ℕ) → i < n → InRange low high (l i))
    → ((i : ℕ) → i < n → InRange low high (u i))
    → ((i : ℕ) → i < n → int_le (l i) (u i) ≡ true) → IsBox low high n (between_corners n l u)
corners-box low high n l u h k o = record {
  long = table-long n _;
  ranged = corners-ranged low high n l u h k;
  shape = λ e. let f = corners-upright n l u o in cc;
}

pub le_same : (a b z : ℤ) → a ≡ z → b ≡ z → int_le a b ≡ true
le_same a b z h k = grind (arith, ints)

pub min_max : (a b x y : ℤ) → a ≡ int_min x y → b ≡ int_max x y → int_le a b ≡ true
min_max a b x y h k = grind (arith, ints)

pub low_le_high : (low high : ℤ) → low <ℤ pos 0 → pos 0 <ℤ high → int_le low high ≡ true
low_le_high low high h k = grind (arith, ints)

pub long_same : (low high : ℤ) (n : ℕ) (a b : List (ℤ × ℤ)) → IsBox low high n a → IsBox low high n b
    → length a ≡ length b
long_same low high n a b h k = h.long ∙ sym k.long

pub corners-empty_box : (low high : ℤ) (n : ℕ) (l u : ℕ → ℤ) → ((i : ℕ) → i < n → l i ≡ high)
    → ((i : ℕ) → i < n → u i ≡ low)
    → between_corners n l u ≡ empty_box low high n
corners-empty_box low high n l u h k = corners-same n l u (λ _. high) (λ _. low) h k
