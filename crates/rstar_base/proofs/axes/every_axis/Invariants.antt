use Rattle.std.proofs.Common.{◌≡◌, ◌<◌, ◌≤◌, ℕ, Bool}
use Rattle.rstar_base.specs.Points.{all_below}
use Rattle.rstar_base.proofs.axes.every_axis.Given as goal

-- what the tests below the axis say together
abbrev pub invariant-loop-i : goal.invariant-loop-i
invariant-loop-i g l = (l.i ≤ g.P.Point.DIMENSIONS) × ((t : ℕ → Bool) → ((k : ℕ) (b : Bool) → k < g.P.Point.DIMENSIONS → goal.F-post g l.test k b → b ≡ t k) → l.all ≡ all_below l.i t)
