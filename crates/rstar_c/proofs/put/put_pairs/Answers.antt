use Rattle.std.proofs.Common.{◌∙◌, set, ap, subst, length, min, zero-add}
use Rattle.std.specs.Iterator.{Drains}
use Rattle.rstar_base.specs.Counts.{usize_max}
use Rattle.rstar_c.proofs.Puts.{one-more-put, no-more-put, one-more-counted, below-top}
use Rattle.rstar_c.proofs.put.put_pairs.Goals as goal
use Rattle.rstar_c.proofs.put.put_pairs.Goals.{then-next-room, else-next-room, then-next-other_room, else-next-other_room}

pub loop-one-preserved : goal.loop-one-preserved
loop-one-preserved g c = record {
  counted = one-more-counted 0 _ _ _ _ c.loop-one.invariant.counted c.saturating_add-next.ensures;
  first = elim c.if-next-room.branch [
    | then-next-room w ↦ w.first-is ∙ ap (set c.loop-one.first c.loop-one.next) (ap (λ v. v.1) c.one.view_is) ∙ one-more-put _ 0 _ _ _ _ _ _ c.loop-one.invariant.counted c.loop-one.invariant.first c.room_in-room.ensures (below-top _ c.room_in-room.type_inv) w.if-next-room.true
    | else-next-room w ↦ w.first-is ∙ no-more-put _ 0 _ _ _ _ _ _ c.loop-one.invariant.counted c.loop-one.invariant.first c.room_in-room.ensures (below-top _ c.room_in-room.type_inv) w.if-next-room.false
  ];
  second = elim c.if-next-other_room.branch [
    | then-next-other_room w ↦ w.second-is ∙ ap (set c.loop-one.second c.loop-one.next) (ap (λ v. v.1) c.other.view_is) ∙ one-more-put _ 0 _ _ _ _ _ _ c.loop-one.invariant.counted c.loop-one.invariant.second c.room_in-other_room.ensures (below-top _ c.room_in-other_room.type_inv) w.if-next-other_room.true
    | else-next-other_room w ↦ w.second-is ∙ no-more-put _ 0 _ _ _ _ _ _ c.loop-one.invariant.counted c.loop-one.invariant.second c.room_in-other_room.ensures (below-top _ c.room_in-other_room.type_inv) w.if-next-other_room.false
  ];
}

pub returns : goal.returns
returns g c = record {
  given_items = c.loop-one.yielded;
  given = subst (λ i. Drains g.I.Iterator.next_gives i c.loop-one.yielded) c.into_iter-one-iterator.ensures.into_iter_gives (_, (_, c.loop-one.yielded_by, c.in-None.ensures.steps));
  counted = c.loop-one.invariant.counted ∙ ap (λ n. min n usize_max) (zero-add (length c.loop-one.yielded));
  first = c.loop-one.invariant.first;
  second = c.loop-one.invariant.second;
}
