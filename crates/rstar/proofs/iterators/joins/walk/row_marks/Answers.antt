use Rattle.std.proofs.Common.{◌+◌, ◌*◌, ◌∷◌, [], ◌∙◌, ap, refl, if◌then◌else◌}
use Rattle.rstar.specs.Nodes.{node_box}
use Rattle.rstar.specs.Joins.{meets_by}
use Rattle.rstar.proofs.joining.MarkedPairs.{mark-first, mark-more, mark-all, row-fits}
use Rattle.rstar.proofs.iterators.joins.walk.row_marks.Goals as goal

pub loop-node-init : goal.loop-node-init
loop-node-init g c = λ few room. mark-first _ c.args.nodes.now c.args.others refl

pub loop-node-preserved : goal.loop-node-preserved
loop-node-preserved g c = λ few room.
    let behind = c.loop-node.invariant few room in let cut = c.in-Some.ensures.cases.0 in
    let met = meets_by g.T.Cover.Merges.boxes g.U.Meets.seen c.args.envelope.now (node_box g.U.Covered.object.box_of c.in-Some.node.now) in
    let fits = row-fits _ c.args.nodes.now c.loop-node.rest.now c.in-Some.before.now c.in-Some.node.now c.args.others c.loop-node.marks few room behind cut in
    let made = c.with_mark-marks.ensures fits ∙ ap (λ b. (if b then 1 else 0) + 2 * c.loop-node.marks) c.meets_node.ensures in
    mark-more _ c.args.nodes.now c.args.others c.loop-node.rest.now c.in-Some.before.now c.in-Some.node.now (met ∷ []) c.loop-node.marks c.with_mark-marks.result behind cut made (λ done. refl)

pub returns : goal.returns
returns g c = λ few room. mark-all _ c.args.nodes.now c.args.others c.loop-node.rest.now c.loop-node.marks (c.loop-node.invariant few room) c.in_default.ensures.cases
