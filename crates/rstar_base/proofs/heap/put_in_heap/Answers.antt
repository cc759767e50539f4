use Rattle.std.proofs.Common.{◌∷◌, sym, subst, ◌∙◌, arith}
use Rattle.std.specs.BinaryHeap.{IsHeap}
use Rattle.std.specs.List.Sorted.{IsPermutation}
use Rattle.std.proofs.lemmas.List.Sorted.{length_permutation}
use Rattle.rstar_base.proofs.HeapParts.{heap-push, bag-push}
use Rattle.rstar_base.proofs.Present.{refill-same}
use Rattle.rstar_base.proofs.heap.put_in_heap.Goals as goal

pub returns-clause-heap : goal.returns-clause-heap
returns-clause-heap g c =
    let moved = c.sift_up.ensures.same in
    let long = length_permutation _ _ moved in
    let same = c.as_mut_slice.ensures.len in
    subst (IsHeap g.T.Ord.cmp) (sym (refill-same c.push_reserved.new.self.len c.push_reserved.new.self.items c.sift_up.new.items (long ∙ same)))
    (heap-push g.T.Ord.cmp g.met.T.Ord.total c.args.rest.now.items c.as_mut_slice.result.now c.sift_up.new.items c.args.item c.len-at.result (omega arith) (c.as_mut_slice.ensures.value ∙ c.push_reserved.ensures.items) moved c.sift_up.ensures.rises c.requires.heap)

pub returns-clause-bag : goal.returns-clause-bag
returns-clause-bag g c =
    let moved = c.sift_up.ensures.same in
    let long = length_permutation _ _ moved in
    let same = c.as_mut_slice.ensures.len in
    subst (IsPermutation (c.args.item ∷ c.args.rest.now.items)) (sym (refill-same c.push_reserved.new.self.len c.push_reserved.new.self.items c.sift_up.new.items (long ∙ same)))
    (bag-push c.args.rest.now.items c.as_mut_slice.result.now c.sift_up.new.items c.args.item (c.as_mut_slice.ensures.value ∙ c.push_reserved.ensures.items) moved)
