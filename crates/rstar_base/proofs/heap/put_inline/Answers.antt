use Rattle.std.proofs.Common.{◌≡◌, ℕ, ◌+◌, ◌∷◌, ◌++◌, [], List, Some, None, IsSome, refl, ap, sym, subst, ◌∙◌, arith, length, length-append}
use Rattle.std.specs.List.{AllByRecursion, insert, refill}
use Rattle.std.specs.List.Sorted.{IsPermutation}
use Rattle.std.proofs.lemmas.List.Sorted.{IsPermutation-insert, length_permutation}
use Rattle.rstar_base.specs.SmallHeaps.{present, Rises}
use Rattle.rstar_base.proofs.HeapParts.{all-insert, rises-same, bag-inline}
use Rattle.rstar_base.proofs.Present.{refill-same}
use Rattle.rstar_base.proofs.heap.put_inline.Goals as goal

-- what is written back over a list with one place more
length-put : {X : Type 0} (old : List X) (at : ℕ) (x : X) → length (insert old at x) ≡ length old + 1
length-put old at x = let more = length_permutation _ _ (IsPermutation-insert old at x) in omega (arith, more)

put-back : {X : Type 0} (old put new : List X) (at : ℕ) (free x : X) → put ≡ old ++ free ∷ [] → new ≡ insert old at x → refill (length put) put new ≡ insert old at x
put-back old put new at free x is there =
    let long = ap length there ∙ length-put old at x in
    let more = ap length is ∙ length-append old (free ∷ []) in
    refill-same (length put) put new (omega (arith, long, more)) ∙ there

pub returns : goal.returns
returns g c =
    let old = c.args.inline.now.items in
    let item = Some c.args.item in
    let put = c.put_in_order.ensures old (c.as_mut_slice.ensures.value ∙ c.push.ensures.items) in
    let same = put-back old c.push.new.self.items c.put_in_order.new.items put.0 None item c.push.ensures.items put.1 in
    let longer = ap length same ∙ length-put old put.0 item in
    let full = all-insert IsSome old put.0 item c.requires.filled.full refl in
    let up = put.2 ((rises-same g.T.Ord.cmp old c.requires.filled.full).1 c.requires.rises) in
    record {
      filled = record { full = subst (AllByRecursion IsSome) (sym same) full; few = omega (arith, longer) };
      rises = subst (λ l. Rises g.T.Ord.cmp (present l)) (sym same) ((rises-same g.T.Ord.cmp (insert old put.0 item) full).0 up);
      bag = subst (λ l. IsPermutation (c.args.item ∷ present old) (present l)) (sym same) (bag-inline old put.0 c.args.item c.requires.filled.full);
      len = longer;
    }
