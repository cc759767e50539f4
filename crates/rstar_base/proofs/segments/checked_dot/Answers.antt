use Rattle.std.proofs.Common.{◌≡◌, ◌<◌, ◌∙◌, sym, ap, arith, below_more, true, false}
use Rattle.rstar_base.specs.laws.PointLemmas.{all_below-true, all_below-false}
use Rattle.rstar_base.specs.Segments.{dot}
use Rattle.rstar_base.proofs.SegmentLemmas.{dot-next, fits-next}
use Rattle.rstar_base.proofs.segments.checked_dot.Goals as goal

pub loop-i-preserved : goal.loop-i-preserved
loop-i-preserved g c = record {
  sum = dot-next c.loop-i.i _ _ _ _ (g.P.Point.coord c.args.a.now) (g.P.Point.coord c.args.b.now) c.loop-i.invariant.sum c.nth.ensures.value c.nth-in-loop-i.ensures.value c.in-Some.ensures.1;
  fits = below_more _ _ c.loop-i.invariant.fits (fits-next g.P.Scalar.Bounded.low g.P.Scalar.Bounded.high c.loop-i.i _ _ _ true (g.P.Point.coord c.args.a.now) (g.P.Point.coord c.args.b.now) c.loop-i.invariant.sum c.nth.ensures.value c.nth-in-loop-i.ensures.value c.in-Some.ensures.0);
}

pub returns-in-None : goal.returns-in-None
returns-in-None g c =
    let l : c.loop-i.i < g.P.Point.DIMENSIONS = omega (arith, c.DIMENSIONS-i-end.ensures, c.loop-i-test.true) in
    sym (all_below-false g.P.Point.DIMENSIONS c.loop-i.i _ l (fits-next g.P.Scalar.Bounded.low g.P.Scalar.Bounded.high c.loop-i.i _ _ _ false (g.P.Point.coord c.args.a.now) (g.P.Point.coord c.args.b.now) c.loop-i.invariant.sum c.nth.ensures.value c.nth-in-loop-i.ensures.value c.in-None.ensures))

pub returns : goal.returns
returns g c =
    let e : c.loop-i.i ≡ g.P.Point.DIMENSIONS = omega (arith, c.DIMENSIONS-i-end.ensures, c.loop-i-test.false, c.loop-i.auto.i-end) in (
      sym (all_below-true g.P.Point.DIMENSIONS _ (λ k l. c.loop-i.invariant.fits k (omega arith))),
      c.loop-i.invariant.sum ∙ ap (λ n. dot n (g.P.Point.coord c.args.a.now) (g.P.Point.coord c.args.b.now)) e,
    )
