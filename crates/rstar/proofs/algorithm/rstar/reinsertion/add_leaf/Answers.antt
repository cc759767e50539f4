use Rattle.std.proofs.Common.{arith}
use Rattle.rstar.proofs.inserting.Insertion.{room_one, room_same, room_more}
use Rattle.rstar.proofs.algorithm.rstar.reinsertion.add_leaf.Goals as goal

pub returns-then-len-MAX_SIZE-clause-room : goal.returns-then-len-MAX_SIZE-clause-room
returns-then-len-MAX_SIZE-clause-room g c = omega (
  arith,
  room_one c.args.widest c.args.handed.now c.requires.lists.spare.1,
  c.make_place.ensures.rooms c.args.widest,
  room_same c.args.widest c.push_reserved.new.self c.make_place.new.list c.push_reserved.ensures.capacity,
)

pub returns-clause-room : goal.returns-clause-room
returns-clause-room g c = omega (
  arith,
  room_more c.args.widest c.args.node.now.children c.move_all-2.new.empty (omega (arith, c.move_all.ensures.capacity, c.move_all-2.ensures.empty_capacity)),
  room_one c.args.widest c.cut_at.new.spare (omega (arith, c.requires.lists.spare.1, c.cut_at.ensures.second_capacity)),
)

pub returns-clause-overfull : goal.returns-clause-overfull
returns-clause-overfull g c = (
  c.move_all-2.ensures.left,
  omega (arith, c.requires.lists.overfull.1, c.move_all.ensures.empty_capacity, c.push_reserved-2.ensures.capacity, c.cut_at.ensures.first_capacity, c.move_all-2.ensures.capacity),
)
