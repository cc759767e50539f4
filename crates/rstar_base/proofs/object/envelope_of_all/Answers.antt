use Rattle.std.proofs.Common.{◌∙◌, ap}
use Rattle.rstar_base.proofs.Hulls.{hull-step}
use Rattle.rstar_base.proofs.object.envelope_of_all.Goals as goal

pub loop-t-preserved : goal.loop-t-preserved
loop-t-preserved g c =
    let o = g.T.RTreeObject.object in
    let step = hull-step g.met.T.Envelope.Envelope.envelope_laws o.box_of o.IsValue g.met.T.RTreeObject.object_law c.args.list.now c.loop-t.t-index c.t-item.result c.loop-t.all c.merge.new.self
    c.loop-t-test.true c.t-item.is c.loop-t.invariant.values c.envelope.ensures.own c.loop-t.invariant.merged
    (c.merge.ensures.merged ∙ ap (g.T.Envelope.Envelope.boxes.merge c.loop-t.all) c.envelope.ensures.value) in
    record { values = step.0; merged = step.1 }
