use Rattle.std.proofs.Common.{◌∙◌, ◌+◌, set, ap, sym, map, length, min}
use Rattle.rstar_base.specs.Counts.{usize_max}
use Rattle.rstar_c.specs.Put.{put_from}
use Rattle.rstar_c.proofs.Puts.{put_none, one-more-put, no-more-put, one-more-counted, one-more-taken, low-min, below-top}
use Rattle.rstar_c.proofs.put.put_neighbours.Goals as goal
use Rattle.rstar_c.proofs.put.put_neighbours.Goals.{then-next-room, else-next-room, then-next-other_room, else-next-other_room}

pub loop-item-init : goal.loop-item-init
loop-item-init g c = record {
  counted = low-min c.args.from c.ranges.from.fits;
  ids = sym (put_none c.args.from c.args.ids.now);
  distances = sym (put_none c.args.from c.args.distances.now);
}

pub loop-item-preserved : goal.loop-item-preserved
loop-item-preserved g c =
    let next = one-more-taken c.args.near.now c.loop-item.item-index c.loop-item-item.result _ c.loop-item-test.true c.loop-item-item.is in
    record {
      counted = one-more-counted _ _ _ _ _ c.loop-item.invariant.counted c.saturating_add-next.ensures ∙ ap (λ ns. min (c.args.from + length ns) usize_max) next;
      ids = elim c.if-next-room.branch [
        | then-next-room w ↦ w.ids-is ∙ ap (set c.loop-item.ids c.loop-item.next) (ap (λ v. v.1) c.item.view_is) ∙ one-more-put _ _ _ _ _ _ _ _ c.loop-item.invariant.counted c.loop-item.invariant.ids c.room_in-room.ensures (below-top _ c.room_in-room.type_inv) w.if-next-room.true
        | else-next-room w ↦ w.ids-is ∙ no-more-put _ _ _ c.loop-item-item.result _ _ _ _ c.loop-item.invariant.counted c.loop-item.invariant.ids c.room_in-room.ensures (below-top _ c.room_in-room.type_inv) w.if-next-room.false
      ] ∙ ap (λ ns. put_from c.args.from (map (λ n. n.0.now.1) ns) c.args.ids.now) next;
      distances = elim c.if-next-other_room.branch [
        | then-next-other_room w ↦ w.distances-is ∙ one-more-put _ _ _ _ _ _ _ _ c.loop-item.invariant.counted c.loop-item.invariant.distances c.room_in-other_room.ensures (below-top _ c.room_in-other_room.type_inv) w.if-next-other_room.true
        | else-next-other_room w ↦ w.distances-is ∙ no-more-put _ _ _ c.loop-item-item.result _ _ _ _ c.loop-item.invariant.counted c.loop-item.invariant.distances c.room_in-other_room.ensures (below-top _ c.room_in-other_room.type_inv) w.if-next-other_room.false
      ] ∙ ap (λ ns. put_from c.args.from (map (λ n. n.1) ns) c.args.distances.now) next;
    }
