use Rattle.std.proofs.Common.{◌∷◌, sym, subst, ◌∙◌, arith}
use Rattle.std.specs.BinaryHeap.{IsHeap}
use Rattle.std.specs.List.Sorted.{IsPermutation}
use Rattle.std.proofs.lemmas.List.Sorted.{length_permutation}
use Rattle.rstar_base.proofs.HeapParts.{heap-pop, bag-pop}
use Rattle.rstar_base.proofs.Present.{refill-same}
use Rattle.rstar_base.proofs.heap.take_greatest.Goals as goal

pub returns : goal.returns
returns g c =
    let top = c.swap_remove-top.result in
    let moved = c.sift_down.ensures.same in
    let took = c.as_mut_slice.ensures.value ∙ c.swap_remove-top.ensures.items in
    let same = sym (refill-same c.swap_remove-top.new.self.len c.swap_remove-top.new.self.items c.sift_down.new.items (length_permutation _ _ moved ∙ c.as_mut_slice.ensures.len)) in
    let popped = heap-pop g.T.Ord.cmp g.met.T.Ord.total c.args.rest.now.items c.as_mut_slice.result.now c.sift_down.new.items top
    (omega arith) c.swap_remove-top.ensures.value took (omega arith) moved c.sift_down.ensures.sinks c.requires.heap in
    record {
      heap = subst (IsHeap g.T.Ord.cmp) same popped.0;
      bag = subst (λ l. IsPermutation c.args.rest.now.items (top ∷ l)) same
          (bag-pop c.args.rest.now.items c.as_mut_slice.result.now c.sift_down.new.items top (omega arith) c.swap_remove-top.ensures.value took moved);
      first = c.swap_remove-top.ensures.value;
      greatest = popped.1;
    }
