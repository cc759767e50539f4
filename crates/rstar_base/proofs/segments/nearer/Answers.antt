use Rattle.std.proofs.Common.{◌∙◌, sym}
use Rattle.rstar_base.proofs.SegmentLemmas.{nearer-chosen}
use Rattle.rstar_base.proofs.segments.nearer.Goals as goal

pub returns-then-not_above : goal.returns-then-not_above
returns-then-not_above g c = λ i l.
    let k = g.P.Point.coord in
    c.copied_point.ensures.coords i l
    ∙ sym (nearer-chosen g.P.Scalar.Bounded.high g.P.Point.DIMENSIONS (k c.args.query_point.now) (k c.args.a.now) (k c.args.b.now) _ _ _ c.distance_between.ensures c.distance_between-2.ensures (sym c.if-not_above.true ∙ c.not_above.ensures) i)

pub returns-else-not_above : goal.returns-else-not_above
returns-else-not_above g c = λ i l.
    let k = g.P.Point.coord in
    c.copied_point-else-not_above.ensures.coords i l
    ∙ sym (nearer-chosen g.P.Scalar.Bounded.high g.P.Point.DIMENSIONS (k c.args.query_point.now) (k c.args.a.now) (k c.args.b.now) _ _ _ c.distance_between.ensures c.distance_between-2.ensures (sym c.if-not_above.false ∙ c.not_above.ensures) i)
