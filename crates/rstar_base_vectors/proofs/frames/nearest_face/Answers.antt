use Rattle.std.proofs.Common.{◌≡◌, ◌∙◌, ◌<◌, ap, pos, unsigned_abs, refl, arith}
use Rattle.rstar_base.specs.Distances.{least_below}
use Rattle.rstar_base.proofs.MinMax.{above_zero}
use Rattle.rstar_base_vectors.proofs.Faces.{face_on, face-more, all-faces}
use Rattle.rstar_base_vectors.proofs.frames.nearest_face.Goals as goal

pub loop-axis-preserved : goal.loop-axis-preserved
loop-axis-preserved g c =
    let k = g.P.Point.coord in
    let value = g.P.Scalar.Number.value in
    face-more (value c.loop-axis.nearest) (value c.squared_nearer_end-face.result) (value c.least-nearest.result) (unsigned_abs g.P.Scalar.Bounded.high) c.loop-axis.axis _ (k c.args.one.now) (k c.args.other.now) (k c.args.point.now) refl
    c.loop-axis.invariant (rw (← c.nth.ensures.value, ← c.nth-in-loop-axis.ensures.value, ← c.nth-in-loop-axis-2.ensures.value) c.squared_nearer_end-face.ensures) c.least-nearest.ensures.value

pub returns-else-DIMENSIONS-eq0 : goal.returns-else-DIMENSIONS-eq0
returns-else-DIMENSIONS-eq0 g c =
    let k = g.P.Point.coord in
    let n = g.P.Point.DIMENSIONS in
    let e : c.loop-axis.axis ≡ n = omega (arith, c.DIMENSIONS-axis-end.ensures, c.loop-axis-test.false, c.loop-axis.auto.axis-end) in
    let some : 0 < n = above_zero n (λ z. c.if-DIMENSIONS-eq0.false (c.DIMENSIONS.ensures ∙ z)) in
    c.loop-axis.invariant
    ∙ ap (λ m. pos (least_below (unsigned_abs g.P.Scalar.Bounded.high) m (face_on (k c.args.one.now) (k c.args.other.now) (k c.args.point.now)))) e
    ∙ ap pos (all-faces g.P.Scalar.Bounded.high n (k c.args.one.now) (k c.args.other.now) (k c.args.point.now) some)
