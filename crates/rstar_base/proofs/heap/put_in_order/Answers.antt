use Rattle.std.proofs.Common.{◌≡◌, ◌+◌, ◌-◌, ◌∷◌, Some, None, true, false, ap, sym, subst, ◌∙◌, arith, length, drop, slice_index_or}
use Rattle.std.specs.Cmp.Lexicographic.{options_total}
use Rattle.std.specs.List.{AllByRecursion, insert}
use Rattle.std.specs.Option.{option_cmp}
use Rattle.std.specs.Ordering.{is_lt}
use Rattle.std.specs.Prelude.{slice_set}
use Rattle.std.proofs.lemmas.List.{drop_more, length_push}
use Rattle.std.proofs.HeapSift as sifts
use Rattle.rstar_base.proofs.HeapParts.{none-beyond, insert-end, insert-lower, insert-set, read-before, rises-insert}
use Rattle.rstar_base.proofs.heap.put_in_order.Goals.{then-loop-at-test+else-is_less_than, else-loop-at-test}
use Rattle.rstar_base.proofs.heap.put_in_order.Goals as goal

pub loop-at-init : goal.loop-at-init
loop-at-init g c = record {
  within = omega arith;
  moved = λ front is.
      let end : length front ≡ length c.args.items.now - 1 = omega (arith, ap length is, length_push front None) in
      is ∙ sym (insert-end front None) ∙ ap (λ n. insert front n None) end;
  after = λ front is.
      none-beyond (λ y. is_lt (option_cmp g.T.Ord.cmp y (Some c.args.item)) ≡ false) front (length c.args.items.now - 1) (omega (arith, ap length is, length_push front None));
}

pub loop-at-preserved : goal.loop-at-preserved
loop-at-preserved g c =
    let at = c.loop-at.at in
    let x = Some c.args.item in
    let within = c.loop-at.invariant.within in
    record {
      within = omega arith;
      moved = λ front is.
          insert-lower front c.loop-at.items (at - 1) at None c.take.new.self c.take.result c.index-items-at-in-loop-at.result (c.loop-at.invariant.moved front is) c.take.ensures.after c.take.ensures.value (omega arith) (omega (arith, ap length is, length_push front None, within));
      after = λ front is.
          let first = slice_index_or front (at - 1) x in
          let back : at - 1 + 1 ≡ at = omega arith in
          let split : drop (at - 1) front ≡ first ∷ drop at front = drop_more front (at - 1) x (omega (arith, ap length is, length_push front None, within)) ∙ ap (λ n. first ∷ drop n front) back in
          let read = read-before front c.loop-at.items (at - 1) at None c.index-items-at.result x (c.loop-at.invariant.moved front is) (omega arith) (omega (arith, ap length is, length_push front None, within)) in
          let less : is_lt (option_cmp g.T.Ord.cmp x first) ≡ true = ap (λ y. is_lt (option_cmp g.T.Ord.cmp x y)) (sym read) ∙ sym c.is_less_than.ensures ∙ c.if-is_less_than.true in
          subst (AllByRecursion (λ y. is_lt (option_cmp g.T.Ord.cmp y x) ≡ false)) (sym split) ((sifts.ranks (options_total g.met.T.Ord.total)).one_way x first less, c.loop-at.invariant.after front is);
    }

pub returns : goal.returns
returns g c = λ front is.
    let at = c.loop-at.at in
    let x = Some c.args.item in
    let within = c.loop-at.invariant.within in
    let was = c.loop-at.invariant.moved front is in (
      at,
      ap (λ l. slice_set l at x) was ∙ insert-set front at None x (omega (arith, ap length is, length_push front None, within)),
      λ h. rises-insert (option_cmp g.T.Ord.cmp) (options_total g.met.T.Ord.total) front at x h (omega (arith, ap length is, length_push front None, within)) (c.loop-at.invariant.after front is)
          (λ j d e. elim c.loop-at-test.branch [
            | then-loop-at-test+else-is_less_than w ↦
                let read = read-before front c.loop-at.items (at - 1) at None w.index-items-at.result d was (omega arith) (omega (arith, ap length is, length_push front None, within)) in
                let same : at - 1 ≡ j = omega (arith, e) in
                subst (λ k. is_lt (option_cmp g.T.Ord.cmp x (slice_index_or front k d)) ≡ false) same
                (ap (λ y. is_lt (option_cmp g.T.Ord.cmp x y)) (sym read) ∙ sym w.is_less_than.ensures ∙ w.if-is_less_than.false)
            | else-loop-at-test w ↦ absurd (omega (arith, e, w.loop-at-test.false))
          ]),
    )
