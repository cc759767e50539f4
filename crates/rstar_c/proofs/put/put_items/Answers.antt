use Rattle.std.proofs.Common.{◌∙◌, set, ap, subst, length, min, zero-add}
use Rattle.std.specs.Iterator.{Drains}
use Rattle.rstar_base.specs.Counts.{usize_max}
use Rattle.rstar_c.proofs.Puts.{one-more-put, no-more-put, one-more-counted, below-top}
use Rattle.rstar_c.proofs.put.put_items.Goals as goal
use Rattle.rstar_c.proofs.put.put_items.Goals.{then-next-room, else-next-room, then-next-other_room, else-next-other_room}

pub loop-item-preserved : goal.loop-item-preserved
loop-item-preserved g c = record {
  counted = one-more-counted 0 _ _ _ _ c.loop-item.invariant.counted c.saturating_add-next.ensures;
  boxes = elim c.if-next-room.branch [
    | then-next-room w ↦ w.boxes-is ∙ ap (set c.loop-item.boxes c.loop-item.next) w.corners_of.ensures ∙ one-more-put _ 0 _ _ _ _ _ _ c.loop-item.invariant.counted c.loop-item.invariant.boxes c.room_in-room.ensures (below-top _ c.room_in-room.type_inv) w.if-next-room.true
    | else-next-room w ↦ w.boxes-is ∙ no-more-put _ 0 _ _ _ _ _ _ c.loop-item.invariant.counted c.loop-item.invariant.boxes c.room_in-room.ensures (below-top _ c.room_in-room.type_inv) w.if-next-room.false
  ];
  ids = elim c.if-next-other_room.branch [
    | then-next-other_room w ↦ w.ids-is ∙ ap (set c.loop-item.ids c.loop-item.next) (ap (λ v. v.1) c.item.view_is) ∙ one-more-put _ 0 _ _ _ _ _ _ c.loop-item.invariant.counted c.loop-item.invariant.ids c.room_in-other_room.ensures (below-top _ c.room_in-other_room.type_inv) w.if-next-other_room.true
    | else-next-other_room w ↦ w.ids-is ∙ no-more-put _ 0 _ _ _ _ _ _ c.loop-item.invariant.counted c.loop-item.invariant.ids c.room_in-other_room.ensures (below-top _ c.room_in-other_room.type_inv) w.if-next-other_room.false
  ];
}

pub returns : goal.returns
returns g c = record {
  given_items = c.loop-item.yielded;
  given = subst (λ i. Drains g.I.Iterator.next_gives i c.loop-item.yielded) c.into_iter-item-iterator.ensures.into_iter_gives (_, (_, c.loop-item.yielded_by, c.in-None.ensures.steps));
  counted = c.loop-item.invariant.counted ∙ ap (λ n. min n usize_max) (zero-add (length c.loop-item.yielded));
  first = c.loop-item.invariant.boxes;
  second = c.loop-item.invariant.ids;
}
