use Rattle.std.proofs.Common.{◌≡◌, ◌∙◌, arith, refl, ap, pos, min, unsigned_abs}
use Rattle.rstar_base.specs.Sums.{sum_below}
use Rattle.rstar_base.proofs.Sums.{sum_below-more}
use Rattle.rstar_base.proofs.Squares.{clamped_more}
use Rattle.rstar_base.proofs.axes.clamped_sum.Goals as goal

pub loop-i-preserved : goal.loop-i-preserved
loop-i-preserved g c = λ to h.
    clamped_more g.P.Scalar.Bounded.low g.P.Scalar.Bounded.high (g.P.Scalar.Number.value c.loop-i.sum) (g.P.Scalar.Number.value c.term.result) _ (sum_below c.loop-i.i to) (to c.loop-i.i) _
    g.met.P.Scalar.RTreeNum.low_law g.met.P.Scalar.RTreeNum.high_law (c.loop-i.invariant to h)
    (h c.loop-i.i c.term.result (omega (arith, c.DIMENSIONS-i-end.ensures, c.loop-i-test.true)) c.term.ensures)
    c.clamped_add-sum.ensures (sum_below-more c.loop-i.i _ to refl)

pub returns : goal.returns
returns g c = λ to h.
    let e : c.loop-i.i ≡ g.P.Point.DIMENSIONS = omega (arith, c.DIMENSIONS-i-end.ensures, c.loop-i-test.false, c.loop-i.auto.i-end) in
    c.loop-i.invariant to h ∙ ap (λ n. pos (min (sum_below n to) (unsigned_abs g.P.Scalar.Bounded.high))) e
