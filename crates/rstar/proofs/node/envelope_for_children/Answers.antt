use Rattle.std.proofs.Common.{◌∙◌, ap}
use Rattle.rstar_base.proofs.Hulls.{hull-step}
use Rattle.rstar.specs.Nodes.{node_box}
use Rattle.rstar.proofs.node.envelope_for_children.Goals as goal

pub loop-node-preserved : goal.loop-node-preserved
loop-node-preserved g c =
    let v = g.T.Cover.Merges.boxes in
    let box = node_box g.T.Covered.object.box_of in
    let step = hull-step g.met.T.Cover.Merges.merge_laws box (λ n. v.IsValue (box n)) (λ n h. h) c.args.children.now c.loop-node.node-index c.node-item.result c.loop-node.all c.merge.new.self
    c.loop-node-test.true c.node-item.is c.loop-node.invariant.values c.cover.ensures.own c.loop-node.invariant.merged
    (c.merge.ensures.merged ∙ ap (v.merge c.loop-node.all) c.cover.ensures.value) in
    record { values = step.0; merged = step.1 }
