-- Sums over the axes: one axis more, and the distance to a box.
use Rattle.std.specs.Prelude.{◌≡◌, ◌+◌, ℕ, ℤ, zero, suc}
use Rattle.std.proofs.Common.{refl, arith}
use Rattle.rstar_base.specs.Points.{table}
use Rattle.rstar_base.specs.Boxes.{between_corners}
use Rattle.rstar_base.specs.Distances.{square_apart, nearest_on_axis, distance_sum}
use Rattle.rstar_base.specs.Sums.{sum_below}

pub sum_below-more : (n m : ℕ) (f : ℕ → ℕ) → m ≡ n + 1 → sum_below m f ≡ sum_below n f + f n
sum_below-more zero (suc zero) f e = omega arith
sum_below-more (suc n) (suc m) f e = omega (arith, sum_below-more n m (λ i. f (suc i)) (omega arith))
sum_below-more n m f e = absurd (omega arith)

-- the distance to a box, axis by axis
pub corners-distance : (n : ℕ) (l u p : ℕ → ℤ)
    → sum_below n (λ i. square_apart (p i) (nearest_on_axis (l i, u i) (p i)))
    ≡ distance_sum (between_corners n l u) (table n p)
corners-distance zero l u p = refl
corners-distance (suc n) l u p = simp (corners-distance n)
