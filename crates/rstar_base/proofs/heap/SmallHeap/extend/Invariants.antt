use Rattle.std.proofs.Common.{◌≤◌, ◌+◌, ◌++◌, length, vec_len, vec_capacity}
use Rattle.std.specs.List.Sorted.{IsPermutation}
use Rattle.std.specs.BinaryHeap.{IsHeap}
use Rattle.rstar_base.specs.SmallHeaps.{items_of, present, Rises, IsFilled}
use Rattle.rstar_base.proofs.heap.SmallHeap.extend.Given as goal

abbrev pub invariant-loop-item : goal.invariant-loop-item
invariant-loop-item g l = record {
  can : (goal.iterator-loop-item g).can_next l.item-iterator;
  finite : (goal.iterator-loop-item g).is_finite l.item-iterator;
  filled : IsFilled l.self-inside.inline;
  rises : Rises g.T.Ord.cmp (present l.self-inside.inline.items);
  heap : IsHeap g.T.Ord.cmp l.self-inside.rest.items;
  bag : IsPermutation (items_of l.fn.self ++ l.yielded) (present l.self-inside.inline.items ++ l.self-inside.rest.items);
  room : length l.self-inside.inline.items + vec_len l.self-inside.rest + (goal.iterator-loop-item g).remaining l.item-iterator ≤ 32 + vec_capacity l.self-inside.rest;
}
