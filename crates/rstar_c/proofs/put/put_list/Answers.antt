use Rattle.std.proofs.Common.{◌∙◌, ◌+◌, set, ap, map, length, min}
use Rattle.rstar_base.specs.Counts.{usize_max}
use Rattle.rstar_c.specs.Put.{over}
use Rattle.rstar_c.proofs.Puts.{one-more-put, no-more-put, one-more-counted, one-more-taken, below-top}
use Rattle.rstar_c.proofs.put.put_list.Goals as goal
use Rattle.rstar_c.proofs.put.put_list.Goals.{then-next-room, else-next-room}

pub loop-item-preserved : goal.loop-item-preserved
loop-item-preserved g c =
    let next = one-more-taken c.args.items.now c.loop-item.item-index c.item-item.result _ c.loop-item-test.true c.item-item.is in
    record {
      counted = one-more-counted 0 _ _ _ _ c.loop-item.invariant.counted c.saturating_add-next.ensures ∙ ap (λ ns. min (0 + length ns) usize_max) next;
      written = elim c.if-next-room.branch [
        | then-next-room w ↦ w.ids-is ∙ ap (set c.loop-item.ids c.loop-item.next) (ap (λ v. v.1) c.item.view_is) ∙ one-more-put _ 0 _ _ _ _ _ _ c.loop-item.invariant.counted c.loop-item.invariant.written c.room_in-room.ensures (below-top _ c.room_in-room.type_inv) w.if-next-room.true
        | else-next-room w ↦ w.ids-is ∙ no-more-put _ 0 _ c.item-item.result _ _ _ _ c.loop-item.invariant.counted c.loop-item.invariant.written c.room_in-room.ensures (below-top _ c.room_in-room.type_inv) w.if-next-room.false
      ] ∙ ap (λ ns. over (map (λ t. t.1) ns) c.args.ids.now) next;
    }
