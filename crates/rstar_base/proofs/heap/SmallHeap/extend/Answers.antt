use Rattle.std.proofs.Common.{◌++◌, ◌∷◌, [], length, ap, sym, subst, arith, rules, length-append, append-nil, append_assoc}
use Rattle.std.specs.Iterator.{IsFinite, size}
use Rattle.std.specs.BinaryHeap.{IsHeap}
use Rattle.std.specs.List.Sorted.{IsPermutation}
use Rattle.std.proofs.lemmas.List.Sorted.{IsPermutation-refl, IsPermutation-push_more}
use Rattle.rstar_base.specs.SmallHeaps.{present, items_of}
use Rattle.rstar_base.proofs.Present.{length-present}
use Rattle.rstar_base.proofs.HeapParts.{ordered-of, inline-of, rest-of}
use Rattle.rstar_base.proofs.heap.SmallHeap.extend.Goals as goal

pub returns-in_err-reserve-clause-inline : goal.returns-in_err-reserve-clause-inline
returns-in_err-reserve-clause-inline g c = λ few.
    let long = length-present c.self.inside.inline.items c.self.invariant.full in
    let all = length-append (present c.self.inside.inline.items) c.self.inside.rest.items in
    let same = ap (λ h. length (items_of h)) c.self.view_is in
    let full = c.in_err-reserve.ensures.full in
    let ok = c.self.inside.rest.ok in
    absurd (omega (arith, ok, full))

pub loop-item-init : goal.loop-item-init
loop-item-init g c =
    let same = sym c.into_iter-item-iterator.ensures.into_iter_gives in
    let room = c.in_ok-reserve.ensures.ok in
    let many = c.len.ensures.value in
    let left = ap (λ i. size (g.I.Iterator.remaining i)) same in
    let few = c.self.invariant.few in
    record {
      can = subst g.I.Iterator.can_next same c.requires.items;
      finite = subst (λ i. IsFinite (g.I.Iterator.remaining i)) same c.len.ensures.finite;
      filled = c.self.invariant;
      rises = inline-of g.T.Ord.cmp _ _ c.self.view_is c.requires.ordered;
      heap = subst (IsHeap g.T.Ord.cmp) (sym c.reserve.ensures.items) (rest-of g.T.Ord.cmp _ _ c.self.view_is c.requires.ordered);
      bag = subst (λ r. IsPermutation (items_of c.args.self.now ++ []) (present c.self.inside.inline.items ++ r)) (sym c.reserve.ensures.items) (subst (λ h. IsPermutation (items_of h ++ []) (present c.self.inside.inline.items ++ c.self.inside.rest.items)) c.self.view_is
          (subst (λ l. IsPermutation l (present c.self.inside.inline.items ++ c.self.inside.rest.items)) (sym (append-nil (present c.self.inside.inline.items ++ c.self.inside.rest.items))) (IsPermutation-refl _)));
      room = omega arith;
    }

pub put-requires : goal.put-requires
put-requires g c =
    let on = c.in-Some.ensures.goes.on c.loop-item.invariant.finite in
    let room = c.loop-item.invariant.room in
    let fewer = on.2 in
    (search rules, (c.loop-item.invariant.filled, (c.loop-item.invariant.rises, (c.loop-item.invariant.heap, omega arith))))

pub loop-item-preserved : goal.loop-item-preserved
loop-item-preserved g c =
    let on = c.in-Some.ensures.goes.on c.loop-item.invariant.finite in
    let room = c.loop-item.invariant.room in
    let fewer = on.2 in
    record {
      can = on.0;
      finite = on.1;
      filled = c.put.ensures.filled;
      rises = c.put.ensures.rises;
      heap = c.put.ensures.heap;
      bag = subst (λ l. IsPermutation l (present c.put.new.inline.items ++ c.put.new.rest.items)) (append_assoc (items_of c.args.self.now) c.loop-item.yielded (c.in-Some.item ∷ [])) (IsPermutation-push_more (items_of c.args.self.now ++ c.loop-item.yielded) (present c.loop-item.self-inside.inline.items ++ c.loop-item.self-inside.rest.items) (present c.put.new.inline.items ++ c.put.new.rest.items) c.in-Some.item c.loop-item.invariant.bag c.put.ensures.bag);
      room = omega arith;
    }

pub returns-clause-ordered : goal.returns-clause-ordered
returns-clause-ordered g c = ordered-of g.T.Ord.cmp _ c.loop-item.invariant.rises c.loop-item.invariant.heap

pub returns-in_err-reserve-clause-ordered : goal.returns-in_err-reserve-clause-ordered
returns-in_err-reserve-clause-ordered g c =
    ordered-of g.T.Ord.cmp _ (inline-of g.T.Ord.cmp _ _ c.self.view_is c.requires.ordered)
    (subst (IsHeap g.T.Ord.cmp) (sym c.reserve.ensures.items) (rest-of g.T.Ord.cmp _ _ c.self.view_is c.requires.ordered))
