use Rattle.std.proofs.Common.{refl, subst}
use Rattle.std.proofs.lemmas.List.{take_all}
use Rattle.rstar_c.specs.Answers.{AreNearestEach}
use Rattle.rstar_c.proofs.Rows.{one-more-row}
use Rattle.rstar_c.proofs.store.Store.put_each_nearest.Goals as goal

pub loop-place-preserved : goal.loop-place-preserved
loop-place-preserved c =
    one-more-row _ _ c.args.places.now c.loop-place.place-index _ _ _ _ _ _ _ _ _ _ c.room_in-room.result c.room_in-other.result c.loop-place.invariant c.in_ok-next.ensures.put refl c.loop-place-test.true
    c.room_in-room.ensures c.room_in-room.type_inv c.room_in-other.ensures c.room_in-other.type_inv

pub returns-clause-put : goal.returns-clause-put
returns-clause-put c =
    subst (λ places. AreNearestEach places c.args.most c.args.self.now c.args.ids.now c.loop-place.ids c.args.distances.now c.loop-place.distances c.loop-place.next)
    (take_all c.loop-place.place-index c.args.places.now c.loop-place-test.false) c.loop-place.invariant
