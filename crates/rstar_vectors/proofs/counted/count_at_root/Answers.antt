use Rattle.std.proofs.Common.{◌∙◌, ap}
use Rattle.rstar.specs.Nodes.{envelope_of}
use Rattle.rstar_base.specs.BoxData.{box_data}
use Rattle.rstar_base.specs.PointElements.{point_object}
use Rattle.rstar_vectors.proofs.Callers.{counts_all}
use Rattle.rstar_vectors.proofs.counted.count_at_root.Goals as goal

pub returns : goal.returns
returns g c =
    let low = g.P.Scalar.Bounded.low in
    let high = g.P.Scalar.Bounded.high in
    let n = g.P.Point.DIMENSIONS in
    c.count.ensures.value ∙ ap (λ e. e.1) (c.envelope.ensures ∙ ap envelope_of c.root.ensures.shown)
    ∙ counts_all (box_data low high n) (point_object low high n (λ p. g.P.Point.coord p.at)) _ _ c.requires
