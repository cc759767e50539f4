use Rattle.std.proofs.Common.{refl, arith}
use Rattle.rstar.proofs.inserting.Insertion.{room_one, room_none, last_spare, spends_none, spends_one}
use Rattle.rstar.proofs.algorithm.rstar.insertion.take_place.Goals as goal

pub move_over-requires-clause-empty : goal.move_over-requires-clause-empty
move_over-requires-clause-empty g c = (last_spare c.requires.ready _ c.take_last-spare.result c.take_last-spare.ensures.items).1.0

pub move_over-requires-clause-room : goal.move_over-requires-clause-room
move_over-requires-clause-room g c = omega (arith, (last_spare c.requires.ready _ c.take_last-spare.result c.take_last-spare.ensures.items).1.1, c.requires.narrow)

pub returns-then-len-capacity-clause-spends : goal.returns-then-len-capacity-clause-spends
returns-then-len-capacity-clause-spends g c =
    let taken = c.take_last-spare.ensures in
    let spare = (last_spare c.requires.ready _ c.take_last-spare.result taken.items).1 in
    let full = room_none c.args.reserve.now.widest c.args.list.now (omega (arith, c.requires.narrow, c.if-len-capacity.true, c.len.ensures, c.capacity.ensures)) in
    let own = room_one c.args.reserve.now.widest c.move_over.new.list (omega (arith, spare.1, c.move_over.ensures.capacity)) in
    spends_one c.requires.ready c.take_last-spare.result taken.items taken.len taken.capacity refl c.requires.ready.overfull
    (omega (arith, full, own)) (omega (arith, room_one 0 c.args.list.now (omega arith), room_one 0 c.move_over.new.list (omega arith)))

pub returns-else-len-capacity-clause-spends : goal.returns-else-len-capacity-clause-spends
returns-else-len-capacity-clause-spends g c = spends_none c.requires.ready
