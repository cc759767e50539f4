use Rattle.std.proofs.Common.{◌≡◌, ◌<◌, ◌+◌, ◌∙◌, ℕ, refl, ap, sym, pos, min, unsigned_abs, arith}
use Rattle.rstar_base.specs.Distances.{near_face, far_face}
use Rattle.rstar_base.specs.Sums.{sum_below}
use Rattle.rstar_base.proofs.Sums.{sum_below-more}
use Rattle.rstar_base.proofs.MinMax.{best_from, best_from-more, best_min_max, above_zero, least_clamped}
use Rattle.rstar_base.proofs.Squares.{clamped_more}
use Rattle.rstar_base.proofs.aabb.min_max_distance.Goals as goal

pub loop-i-preserved : goal.loop-i-preserved
loop-i-preserved g c =
    let k = g.P.Point.coord in
    let low = g.P.Scalar.Bounded.low in
    let high = g.P.Scalar.Bounded.high in
    let top = unsigned_abs high in
    let i = c.loop-i.i in
    let near : ℕ → ℕ = λ j. near_face (k c.args.lower.now j, k c.args.upper.now j) (k c.args.point.now j) in
    let far : ℕ → ℕ = λ j. far_face (k c.args.lower.now j, k c.args.upper.now j) (k c.args.point.now j) in
    let ll = g.met.P.Scalar.RTreeNum.low_law in
    let hl = g.met.P.Scalar.RTreeNum.high_law in
    let n : g.P.Scalar.Number.value c.faces-near.result.0 ≡ pos (min (near i) top) = rw (← c.nth.ensures.value, ← c.nth-in-loop-i.ensures.value, ← c.nth-in-loop-i-2.ensures.value) c.faces-near.ensures.near in
    let f : g.P.Scalar.Number.value c.faces-near.result.1 ≡ pos (min (far i) top) = rw (← c.nth.ensures.value, ← c.nth-in-loop-i.ensures.value, ← c.nth-in-loop-i-2.ensures.value) c.faces-near.ensures.far in
    let b = best_from top 0 i near far in
    let s = sum_below i far in
    let x = clamped_more low high _ _ _ b (far i) (b + far i) ll hl c.loop-i.invariant.best f c.clamped_add.ensures refl in
    let y = clamped_more low high _ _ _ s (near i) (0 + s + near i) ll hl c.loop-i.invariant.sum n c.clamped_add-in-loop-i.ensures (omega arith) in
    record {
      best = least_clamped _ _ _ _ _ top x y c.least-best.ensures.value ∙ ap (λ w. pos (min w top)) (sym (best_from-more top 0 i _ near far refl));
      sum = clamped_more low high _ _ _ s (far i) _ ll hl c.loop-i.invariant.sum f c.clamped_add-sum.ensures (sum_below-more i _ far refl);
    }

pub returns-else-DIMENSIONS-eq0 : goal.returns-else-DIMENSIONS-eq0
returns-else-DIMENSIONS-eq0 g c =
    let k = g.P.Point.coord in
    let n = g.P.Point.DIMENSIONS in
    let top = unsigned_abs g.P.Scalar.Bounded.high in
    let e : c.loop-i.i ≡ n = omega (arith, c.DIMENSIONS-i-end.ensures, c.loop-i-test.false, c.loop-i.auto.i-end) in
    let some : 0 < n = above_zero n (λ z. c.if-DIMENSIONS-eq0.false (c.DIMENSIONS.ensures ∙ z)) in
    c.loop-i.invariant.best
    ∙ ap (λ m. pos (min (best_from top 0 m (λ j. near_face (k c.args.lower.now j, k c.args.upper.now j) (k c.args.point.now j)) (λ j. far_face (k c.args.lower.now j, k c.args.upper.now j) (k c.args.point.now j))) top)) e
    ∙ ap pos (best_min_max g.P.Scalar.Bounded.high n (k c.args.lower.now) (k c.args.upper.now) (k c.args.point.now) some)
