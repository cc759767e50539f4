use Rattle.std.proofs.Common.{◌≡◌, ◌∙◌, arith, refl, ap, pos, min, unsigned_abs}
use Rattle.rstar_base.specs.Sums.{product_below}
use Rattle.rstar_base.proofs.Measures.{product_below-more, one_clamped}
use Rattle.rstar_base.proofs.Squares.{clamped_times}
use Rattle.rstar_base.proofs.axes.clamped_product.Goals as goal

pub loop-i-init : goal.loop-i-init
loop-i-init g c = λ to h.
    ap g.P.Scalar.Number.value c.one-product.ensures ∙ g.met.P.Scalar.One.one_law g.met.P.Scalar.Integral.exact_law ∙ one_clamped g.P.Scalar.Bounded.high g.met.P.Scalar.RTreeNum.high_law

pub loop-i-preserved : goal.loop-i-preserved
loop-i-preserved g c = λ to h.
    clamped_times g.P.Scalar.Bounded.low g.P.Scalar.Bounded.high (g.P.Scalar.Number.value c.loop-i.product) (g.P.Scalar.Number.value c.factor.result) _ (product_below c.loop-i.i to) (to c.loop-i.i) _
    g.met.P.Scalar.RTreeNum.low_law g.met.P.Scalar.RTreeNum.high_law (c.loop-i.invariant to h)
    (h c.loop-i.i c.factor.result (omega (arith, c.DIMENSIONS-i-end.ensures, c.loop-i-test.true)) c.factor.ensures)
    c.clamped_mul-product.ensures (product_below-more c.loop-i.i _ to refl)

pub returns : goal.returns
returns g c = λ to h.
    let e : c.loop-i.i ≡ g.P.Point.DIMENSIONS = omega (arith, c.DIMENSIONS-i-end.ensures, c.loop-i-test.false, c.loop-i.auto.i-end) in
    c.loop-i.invariant to h ∙ ap (λ n. pos (min (product_below n to) (unsigned_abs g.P.Scalar.Bounded.high))) e
