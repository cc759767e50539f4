use Rattle.std.proofs.Common.{rules, arith, ◌++◌, sym, ap, ◌∙◌, length}
use Rattle.rstar.specs.Stored.{number, stored_size}
use Rattle.rstar.proofs.storing.Written.{number_is, head_put, leaf_shown, root_shown, leaf_stored, parent_stored, shorter, room_more, written_more, whole_spelled, whole_stored, whole_size}
use Rattle.rstar.proofs.stored.+put_parent.Goals as goal
use Rattle.rstar.proofs.stored.+put_parent.Goals.{in-Leaf, in-Parent}

pub loop-child-init : goal.loop-child-init
loop-child-init t c =
    let spelled = head_put c.args.out.now.items c.put_bytes.new.out.items c.put_point.new.out.items _ _ _ c.lower.result c.upper.result (search rules) (search rules) c.lower.ensures c.upper.ensures
    (c.put_bytes.ensures.items ∙ ap (λ u. c.args.out.now.items ++ u) (c.to_le_bytes.ensures ∙ number_is _ ∙ ap number (c.len.ensures ∙ sym c.as_slice-child-items.ensures.len ∙ ap length c.as_slice-child-items.ensures.value))) c.put_point.ensures.put.items c.put_point-2.ensures.put.items in
    search rules

pub put_point-requires-in-Leaf : goal.put_point-requires-in-Leaf
put_point-requires-in-Leaf t c =
    let one = ap stored_size (leaf_shown _ _ c.in-Leaf.is) in
    record { room = omega (arith, one, room_more c.as_slice-child-items.ensures.value c.loop-child-test.true c.child-item.is c.loop-child.invariant c.requires.room) }

pub put_parent-requires : goal.put_parent-requires
put_parent-requires t c =
    let one = ap stored_size (root_shown _ _ c.in-Parent.is) in
    let less = shorter c.args.parent.now c.as_slice-child-items.ensures.value c.loop-child-test.true c.child-item.is in
    (omega (arith, one, less), omega (arith, one, room_more c.as_slice-child-items.ensures.value c.loop-child-test.true c.child-item.is c.loop-child.invariant c.requires.room))

pub loop-child-preserved : goal.loop-child-preserved
loop-child-preserved t c =
    elim c.match-child.branch [
      | in-Leaf w ↦ rw w.out-is (written_more c.as_slice-child-items.ensures.value c.loop-child-test.true c.child-item.is c.loop-child.invariant w.put_point-in-Leaf.new.out
          (leaf_shown _ _ w.in-Leaf.is) w.put_point-in-Leaf.ensures.put (λ h tree. leaf_stored h _ _ w.in-Leaf.is w.put_point-in-Leaf.ensures.place tree))
      | in-Parent w ↦ rw w.out-is (written_more c.as_slice-child-items.ensures.value c.loop-child-test.true c.child-item.is c.loop-child.invariant w.put_parent.new.out
          (root_shown _ _ w.in-Parent.is) w.put_parent.ensures.put (λ h tree. parent_stored h _ _ w.in-Parent.is w.put_parent.ensures.stored tree))
    ]

pub returns : goal.returns
returns t c =
    let value = c.as_slice-child-items.ensures.value in
    record {
      put = record {
        items = whole_spelled c.args.parent.now _ c.loop-child.child-index value c.loop-child-test.false c.args.out.now.items _ c.loop-child.invariant.spelled;
        len = omega (arith, whole_size c.args.parent.now _ c.loop-child.child-index value c.loop-child-test.false, c.loop-child.invariant.len);
        capacity = c.loop-child.invariant.capacity;
      };
      stored = λ h w. whole_stored c.args.parent.now _ c.loop-child.child-index value c.loop-child-test.false h w (c.loop-child.invariant.stored h w);
    }
