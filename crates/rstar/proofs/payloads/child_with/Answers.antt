use Rattle.std.proofs.Common.{◌≡◌, ◌∙◌, ap, refl}
use Rattle.rstar_base.specs.Points.{table}
use Rattle.rstar.specs.inside.WaysDown.{first_at, way_to, with_child, child_at}
use Rattle.rstar.proofs.payloads.child_with.Goals as goal

pub returns : goal.returns
returns g c =
    let v = g.T.Envelope.Envelope.boxes in
    let d = g.T.PointDistance.distances in
    let p = table g.T.Envelope.Point.Point.DIMENSIONS (g.T.Envelope.Point.Point.coord c.args.point.now) in
    let same : c.first_finding-index.result ≡ way_to v d p c.args.parent.now = c.first_finding-index.ensures ∙ ap (first_at v d p) c.as_slice.ensures.value in (
      (refl, λ w. ap (λ i. with_child c.args.parent.now i w) same),
      record { writes_back = tt; value = c.child_of.ensures.value ∙ ap (child_at c.args.parent.now) same },
    )
