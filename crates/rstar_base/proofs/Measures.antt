-- Products over the axes, clamped extents, and the measures axis by axis.
use Rattle.std.proofs.Common.{◌≡◌, ◌<◌, ◌<ℤ◌, ◌+ℤ◌, ◌-ℤ◌, ◌+◌, ◌*◌, ℕ, ℤ, suc, zero, pos, min, unsigned_abs, refl, ap, ◌∙◌, arith}
use Rattle.std.specs.Prelude.{int_le, int_div, true, false}
use Rattle.std.specs.Int.{int_min, int_max}
use Rattle.std.proofs.lemmas.Int.{ints}
use Rattle.num_traits.specs.Laws.{between}
use Rattle.rstar_base.specs.Points.{table}
use Rattle.rstar_base.specs.Boxes.{between_corners}
use Rattle.rstar_base.specs.Sums.{sum_below, product_below}
use Rattle.rstar_base.specs.Measures.{extent, extent_product, extent_sum, overlap, box_center}

-- ---- products

pub product_below-more : (n m : ℕ) (f : ℕ → ℕ) → m ≡ n + 1 → product_below m f ≡ product_below n f * f n
product_below-more zero (suc zero) f e = omega arith
product_below-more (suc n) (suc m) f e = ap (λ w. f zero * w) (product_below-more n m (λ i. f (suc i)) (omega arith)) ∙ grind arith
product_below-more n m f e = absurd (omega arith)

pub product_below-same : (n : ℕ) (f g : ℕ → ℕ) → ((i : ℕ) → i < n → f i ≡ g i) → product_below n f ≡ product_below n g
product_below-same zero f g h = refl
product_below-same (suc n) f g h = cc (h zero (omega arith), product_below-same n (λ i. f (suc i)) (λ i. g (suc i)) (λ i l. h (suc i) (omega arith)))

pub one_clamped : (high : ℤ) → pos 0 <ℤ high → pos 1 ≡ pos (min 1 (unsigned_abs high))
one_clamped high h = grind (arith, ints)

-- ---- extents

pub extent_up : (low high l u : ℤ) → low <ℤ pos 0 → pos 0 <ℤ high → int_le l u ≡ true → between (u -ℤ l) low high ≡ pos (min (extent (l, u)) (unsigned_abs high))
extent_up low high l u h k le = grind (arith, ints)

pub extent_none : (high l u : ℤ) → int_le l u ≡ false → pos 0 ≡ pos (min (extent (l, u)) (unsigned_abs high))
extent_none high l u le = grind (arith, ints)

-- ---- measures of a box between corners

pub corners-area : (n : ℕ) (l u : ℕ → ℤ) → product_below n (λ i. extent (l i, u i)) ≡ extent_product (between_corners n l u)
corners-area zero l u = refl
corners-area (suc n) l u = simp (corners-area n)

pub corners-overlap : (n : ℕ) (l u l' u' : ℕ → ℤ)
    → product_below n (λ i. extent (int_max (l i) (l' i), int_min (u i) (u' i))) ≡ extent_product (overlap (between_corners n l u) (between_corners n l' u'))
corners-overlap zero l u l' u' = refl
corners-overlap (suc n) l u l' u' = simp (corners-overlap n)

pub corners-perimeter : (n : ℕ) (l u : ℕ → ℤ) → sum_below n (λ i. extent (l i, u i)) ≡ extent_sum (between_corners n l u)
corners-perimeter zero l u = refl
corners-perimeter (suc n) l u = simp (corners-perimeter n)

pub corners-center : (n : ℕ) (l u : ℕ → ℤ) → table n (λ i. int_div (l i +ℤ u i) (pos 2)) ≡ box_center (between_corners n l u)
corners-center zero l u = refl
corners-center (suc n) l u = simp (corners-center n)

pub extent_same : (a b c d : ℤ) → a ≡ c → b ≡ d → extent (a, b) ≡ extent (c, d)
extent_same a b c d h k = cc
