use Rattle.std.proofs.Common.{◌∷◌}
use Rattle.std.proofs.lemmas.List.Sorted.{IsPermutation-append_left}
use Rattle.rstar_base.specs.SmallHeaps.{present}
use Rattle.rstar_base.proofs.HeapParts.{bag-rest-more}
use Rattle.rstar_base.proofs.heap.put.Goals as goal

pub returns-then-len-lt-INLINE-clause-bag : goal.returns-then-len-lt-INLINE-clause-bag
returns-then-len-lt-INLINE-clause-bag g c = IsPermutation-append_left c.args.rest.now.items (c.args.item ∷ present c.args.inline.now.items) (present c.put_inline.new.inline.items) c.put_inline.ensures.bag

pub returns-else-len-lt-INLINE-clause-bag : goal.returns-else-len-lt-INLINE-clause-bag
returns-else-len-lt-INLINE-clause-bag g c = bag-rest-more (present c.args.inline.now.items) c.args.rest.now.items c.put_in_heap.new.rest.items c.args.item c.put_in_heap.ensures.bag
