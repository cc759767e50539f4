use Rattle.std.proofs.Common.{◌∙◌, ◌∷◌, [], arith, rules, subst}
use Rattle.std.proofs.lemmas.List.{take_all}
use Rattle.std.specs.List.{flat_map}
use Rattle.rstar_c.specs.Put.{ArePut}
use Rattle.rstar_c.proofs.Puts.{put-nothing, put-one, put-past}
use Rattle.rstar_c.proofs.Walks.{size-within, node-put}
use Rattle.rstar_c.proofs.walk.+put_below.Goals as goal
use Rattle.rstar_c.proofs.walk.+put_below.Goals.{in-Passed, in-Selected, then-next-room, else-next-room, in-Opened}

pub loop-node-init : goal.loop-node-init
loop-node-init g t c = put-nothing c.args.from c.args.out.now c.ranges.from.fits

pub put_below-next-requires : goal.put_below-next-requires
put_below-next-requires g t c κs within =
    let le = size-within g.N.Node.size c.args.nodes.now c.loop-node.node-index c.node-item.result _ c.node-item.is c.loop-node-test.true in
    (omega (arith, le, c.in-Opened.ensures.1, c.decreases), search (rules, within))

pub loop-node-preserved : goal.loop-node-preserved
loop-node-preserved g t c =
    let next = c.loop-node.next in
    let out = c.loop-node.out in
    let more = node-put (g.N.Node.numbers c.args.question.now) c.args.nodes.now c.loop-node.node-index c.node-item.result _ c.args.out.now out c.match-look.out c.args.from next c.match-look.next
    c.room_in-room.result c.node-item.is c.loop-node-test.true c.room_in-room.ensures c.room_in-room.type_inv c.loop-node.invariant in
    elim c.match-look.branch [
      | in-Passed w ↦ more [] w.in-Passed.ensures (record { counted = w.next-is ∙ (put-nothing next out c.loop-node.auto.next-fits.fits).counted; written = w.out-is ∙ (put-nothing next out c.loop-node.auto.next-fits.fits).written })
      | in-Selected w ↦ more (w.in-Selected.number ∷ []) w.in-Selected.ensures (record {
        counted = w.next-is ∙ w.saturating_add-next.ensures;
        written = w.out-is ∙ elim w.if-next-room.branch [
          | then-next-room v ↦ v.out-is ∙ put-one next w.in-Selected.number out (omega (arith, v.if-next-room.true))
          | else-next-room v ↦ v.out-is ∙ put-past next w.in-Selected.number out (omega (arith, v.if-next-room.false))
        ];
      })
      | in-Opened w ↦ more (flat_map (g.N.Node.numbers c.args.question.now) w.in-Opened.children.now) w.in-Opened.ensures.0 (record { counted = w.next-is ∙ w.put_below-next.ensures.counted; written = w.out-is ∙ w.put_below-next.ensures.written })
    ]

pub returns : goal.returns
returns g t c =
    subst (λ nodes. ArePut (flat_map (g.N.Node.numbers c.args.question.now) nodes) c.args.from c.args.out.now c.loop-node.out c.loop-node.next)
    (take_all c.loop-node.node-index c.args.nodes.now c.loop-node-test.false) c.loop-node.invariant
