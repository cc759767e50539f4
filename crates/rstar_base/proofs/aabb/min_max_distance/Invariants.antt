use Rattle.std.proofs.Common.{◌≡◌, ℕ, pos, min, unsigned_abs}
use Rattle.rstar_base.specs.Distances.{near_face, far_face}
use Rattle.rstar_base.specs.Sums.{sum_below}
use Rattle.rstar_base.proofs.MinMax.{best_from}
use Rattle.rstar_base.proofs.aabb.min_max_distance.Given as goal

-- the best of the axes so far, and the farther faces there
abbrev pub invariant-loop-i : goal.invariant-loop-i
invariant-loop-i g l =
    let k = g.P.Point.coord in
    let near : ℕ → ℕ = λ i. near_face (k l.lower i, k l.upper i) (k l.point i) in
    let far : ℕ → ℕ = λ i. far_face (k l.lower i, k l.upper i) (k l.point i) in
    let top = unsigned_abs g.P.Scalar.Bounded.high in record {
      best : g.P.Scalar.Number.value l.best ≡ pos (min (best_from top 0 l.i near far) top);
      sum : g.P.Scalar.Number.value l.sum ≡ pos (min (sum_below l.i far) top);
    }
