use Rattle.std.proofs.Common.{◌∷◌, ◌++◌, length, ap, sym, subst, arith, rules, length-append}
use Rattle.std.specs.BinaryHeap.{IsHeap}
use Rattle.std.specs.List.Sorted.{IsPermutation}
use Rattle.std.proofs.lemmas.List.Sorted.{IsPermutation-append_left}
use Rattle.rstar_base.specs.SmallHeaps.{present, items_of}
use Rattle.rstar_base.proofs.Present.{length-present}
use Rattle.rstar_base.proofs.HeapParts.{ordered-of, inline-of, rest-of, bag-rest-more}
use Rattle.rstar_base.proofs.heap.SmallHeap.push.Goals as goal

pub put_inline-requires : goal.put_inline-requires
put_inline-requires g c = (search rules, (c.self.invariant, (omega arith, inline-of g.T.Ord.cmp _ _ c.self.view_is c.requires)))

pub returns-then-len-lt-INLINE-clause-ordered : goal.returns-then-len-lt-INLINE-clause-ordered
returns-then-len-lt-INLINE-clause-ordered g c = ordered-of g.T.Ord.cmp _ c.put_inline.ensures.rises (rest-of g.T.Ord.cmp _ _ c.self.view_is c.requires)

pub returns-then-len-lt-INLINE-clause-ok : goal.returns-then-len-lt-INLINE-clause-ok
returns-then-len-lt-INLINE-clause-ok g c = subst (λ h. IsPermutation (c.args.item ∷ items_of h) (present c.put_inline.new.inline.items ++ c.self.inside.rest.items)) c.self.view_is (IsPermutation-append_left c.self.inside.rest.items (c.args.item ∷ present c.self.inside.inline.items) (present c.put_inline.new.inline.items) c.put_inline.ensures.bag)

pub put_in_heap-requires-clause-heap : goal.put_in_heap-requires-clause-heap
put_in_heap-requires-clause-heap g c = subst (IsHeap g.T.Ord.cmp) (sym c.make_room.ensures.items) (rest-of g.T.Ord.cmp _ _ c.self.view_is c.requires)

pub returns-in-Ok-clause-ordered : goal.returns-in-Ok-clause-ordered
returns-in-Ok-clause-ordered g c = ordered-of g.T.Ord.cmp _ (inline-of g.T.Ord.cmp _ _ c.self.view_is c.requires) c.put_in_heap.ensures.heap

pub returns-in-Ok-clause-ok : goal.returns-in-Ok-clause-ok
returns-in-Ok-clause-ok g c = subst (λ h. IsPermutation (c.args.item ∷ items_of h) (present c.self.inside.inline.items ++ c.put_in_heap.new.rest.items)) c.self.view_is
    (bag-rest-more (present c.self.inside.inline.items) c.self.inside.rest.items c.put_in_heap.new.rest.items c.args.item (subst (λ l. IsPermutation (c.args.item ∷ l) c.put_in_heap.new.rest.items) c.make_room.ensures.items c.put_in_heap.ensures.bag))

pub returns-in-Err-clause-inline : goal.returns-in-Err-clause-inline
returns-in-Err-clause-inline g c = λ few.
    let long = length-present c.self.inside.inline.items c.self.invariant.full in
    let all = length-append (present c.self.inside.inline.items) c.self.inside.rest.items in
    let same = ap (λ h. length (items_of h)) c.self.view_is in
    absurd (omega arith)
