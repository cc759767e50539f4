-- The distance of boxes, axis by axis.
use Rattle.std.proofs.Common.{◌≡◌, ◌*◌, ℕ, ℤ, zero, suc, refl}
use Rattle.rstar_base.specs.Boxes.{between_corners}
use Rattle.rstar_base.specs.Gaps.{gap, gap_sum}
use Rattle.rstar_base.specs.Sums.{sum_below}

pub corners-gaps : (n : ℕ) (l u l' u' : ℕ → ℤ)
    → sum_below n (λ i. gap (l i, u i) (l' i, u' i) * gap (l i, u i) (l' i, u' i))
    ≡ gap_sum (between_corners n l u) (between_corners n l' u')
corners-gaps zero l u l' u' = refl
corners-gaps (suc n) l u l' u' = simp (corners-gaps n)
