use Rattle.std.proofs.Common.{◌≡◌, ◌<◌, ℕ, pos, min, unsigned_abs}
use Rattle.rstar_base.specs.Sums.{product_below}
use Rattle.rstar_base.proofs.axes.clamped_product.Given as goal

-- the clamped product of the axes so far, whatever the factors are
abbrev pub invariant-loop-i : goal.invariant-loop-i
invariant-loop-i g l = (to : ℕ → ℕ) → ((i : ℕ) (y : _) → i < g.P.Point.DIMENSIONS → goal.F-post g l.factor i y → g.P.Scalar.Number.value y ≡ pos (min (to i) (unsigned_abs g.P.Scalar.Bounded.high)))
    → g.P.Scalar.Number.value l.product ≡ pos (min (product_below l.i to) (unsigned_abs g.P.Scalar.Bounded.high))
