use Rattle.std.proofs.Common.{◌≡◌, ◌<◌, ℕ, true, suc, ◌*ℤ◌}
use Rattle.std.specs.Prelude.{◌&&◌}
use Rattle.rstar_base.specs.Boxes.{in_range}
use Rattle.rstar_base.specs.Segments.{dot}
use Rattle.rstar_base.proofs.segments.checked_dot.Given as goal

-- the scalar product so far, in which all fitted
abbrev pub invariant-loop-i : goal.invariant-loop-i
invariant-loop-i g l = record {
  sum : g.P.Scalar.Number.value l.sum ≡ dot l.i (g.P.Point.coord l.a) (g.P.Point.coord l.b);
  fits : (k : ℕ) → k < l.i → true ≡ (in_range g.P.Scalar.Bounded.low g.P.Scalar.Bounded.high (g.P.Point.coord l.a k *ℤ g.P.Point.coord l.b k)
      && in_range g.P.Scalar.Bounded.low g.P.Scalar.Bounded.high (dot (suc k) (g.P.Point.coord l.a) (g.P.Point.coord l.b)));
}
