use Rattle.std.proofs.Common.{arith}
use Rattle.rstar.proofs.inserting.Insertion.{room_more, room_same}
use Rattle.rstar.proofs.algorithm.rstar.split.make_place.Goals as goal

pub returns-then-len-capacity-clause-rooms : goal.returns-then-len-capacity-clause-rooms
returns-then-len-capacity-clause-rooms g c = λ n.
    omega (arith, room_more n c.args.empty.now c.move_over.new.list c.move_over.ensures.capacity, room_same n c.move_over.new.empty c.args.list.now c.move_over.ensures.left_capacity)
