use Rattle.std.proofs.Common.{arith, append-nil, refl, rules, sym, ◌∙◌}
use Rattle.rstar_base.proofs.Along.{IsPermutation-same}
use Rattle.rstar.proofs.inserting.Insertion.{room_more, room_one, room_same, last_spare, spends_as, spends_one}
use Rattle.rstar.proofs.algorithm.rstar.insertion.add_child.Goals as goal

pub returns-then-len-MAX_SIZE-clause-adds : goal.returns-then-len-MAX_SIZE-clause-adds
returns-then-len-MAX_SIZE-clause-adds g c =
    let is = rw c.take_place.ensures.same at c.push_reserved.ensures.items in
    let same = IsPermutation-same _ _ (sym is ∙ sym (append-nil c.push_reserved.new.self.items)) in
    let merged = rw (← is) at c.requires.covered in
    search (rules, c.push_reserved.ensures.len, c.take_place.ensures.length, c.push_reserved.new.self.ok.0, c.requires.ready.wide, c.if-len-MAX_SIZE.true, c.len.ensures)

pub returns-then-len-MAX_SIZE-clause-spends : goal.returns-then-len-MAX_SIZE-clause-spends
returns-then-len-MAX_SIZE-clause-spends g c =
    spends_as c.take_place.ensures.spends (λ n few. omega (arith, room_same n c.push_reserved.new.self c.take_place.new.list c.push_reserved.ensures.capacity))

pub split_in_place-requires-clause-empty : goal.split_in_place-requires-clause-empty
split_in_place-requires-clause-empty g c = (last_spare c.requires.ready _ c.take_last-children.result c.take_last-children.ensures.items).1.0

pub split_in_place-requires-clause-room : goal.split_in_place-requires-clause-room
split_in_place-requires-clause-room g c =
    omega (arith, ((last_spare c.requires.ready _ c.take_last-children.result c.take_last-children.ensures.items).1).1, c.requires.narrow, c.move_all.ensures.length, c.push_reserved-2.ensures.len, c.args.node.now.children.ok.0, g.Params.RTreeParams.min_positive)

pub returns : goal.returns
returns g c =
    let taken = c.take_last-children.ensures in
    let spare = (last_spare c.requires.ready _ c.take_last-children.result taken.items).1 in
    let positive = g.Params.RTreeParams.min_positive in
    let split = c.split_in_place.ensures in
    let moved = c.move_all-2.ensures.length in
    let over = c.move_all.ensures.length in
    let added = c.push_reserved-2.ensures.len in
    let more = room_more c.args.reserve.now.widest c.args.node.now.children c.move_all-2.new.empty (omega (arith, c.move_all.ensures.capacity, c.move_all-2.ensures.empty_capacity)) in
    let small = c.requires.ready.overfull.1 in
    record {
      adds = record {
        same = rw (← c.move_all.ensures.moved, ← c.push_reserved-2.ensures.items, c.move_all-2.ensures.moved) split.same;
        first = record {
          merged = rw (← c.deref.ensures.value) c.envelope_for_children.ensures.hull;
          some = omega (arith, positive, split.first, moved, c.move_all-2.new.empty.ok.0);
          narrow = omega (arith, positive, split.lengths, split.second, moved, over, added, c.requires.narrow, c.args.node.now.children.ok.0, c.move_all-2.new.empty.ok.0);
        };
        second_merged = record {
          merged = rw (← c.deref-2.ensures.value) c.envelope_for_children-envelope.ensures.hull;
          some = omega (arith, positive, split.second, c.split_in_place.new.spare.ok.0);
          narrow = omega (arith, positive, split.lengths, split.first, over, added, c.requires.narrow, c.args.node.now.children.ok.0, c.split_in_place.new.spare.ok.0);
        };
        whole = tt;
        low = tt;
        first_least = omega (arith, split.first, moved, c.move_all-2.new.empty.ok.0);
        second_least = omega (arith, split.second, c.split_in_place.new.spare.ok.0);
        lengths = omega (arith, split.lengths, moved, over, added, c.args.node.now.children.ok.0, c.move_all-2.new.empty.ok.0, c.split_in_place.new.spare.ok.0);
        second_room = omega (arith, spare.1, split.second_capacity);
      };
      spends = spends_one c.requires.ready c.take_last-children.result taken.items taken.len taken.capacity refl
          (c.move_all-2.ensures.left, omega (arith, small, c.move_all.ensures.empty_capacity, c.push_reserved-2.ensures.capacity, split.first_capacity, c.move_all-2.ensures.capacity))
          (omega (arith, more)) (omega (arith, room_one 0 c.args.node.now.children (omega arith), room_one 0 c.move_all-2.new.empty (omega arith)));
      used = omega (arith, taken.len);
    }
