use Rattle.std.proofs.Common.{◌∙◌, ap, pos}
use Rattle.rstar_base.specs.laws.KeptLaws.{kept_distance-own}
use Rattle.rstar_base.proofs.primitives.CachedEnvelopePointDistance.distance_2.Goals as goal

pub returns-clause-own : goal.returns-clause-own
returns-clause-own g c = λ t is same h.
    c.held_between.ensures _ c.distance_2.ensures
    ∙ ap pos (kept_distance-own g.T.Envelope.Envelope.boxes g.T.RTreeObject.object g.T.PointDistance.distances
    g.met.T.PointDistance.distance_laws c.args.self.now.inner t _ _ is same c.known.ensures.range h)
