use Rattle.std.proofs.Common.{◌≤ℤ◌, arith, refl, subst}
use Rattle.std.proofs.lemmas.List.Sorted.{IsPermutation-refl, IsPermutation-trans}
use Rattle.rstar_base.proofs.Around.{placed_first, placed_behind}
use Rattle.rstar_base.proofs.partition.gather.Goals.{then-first, else-first}
use Rattle.rstar_base.proofs.partition.gather.Goals as goal

pub loop-at-init : goal.loop-at-init
loop-at-init g c = record {
  same = IsPermutation-refl _;
  around = record {
    order = c.run_end-at.ensures.order;
    within = c.run_end-at.ensures.within;
    at_most = λ i d p. c.run_end-less.ensures.at_most refl i d (omega arith) p;
    at_least = λ i d q p. c.run_end-at.ensures.at_least refl i d q p;
  };
}

pub loop-at-preserved : goal.loop-at-preserved
loop-at-preserved g c =
    let pivot = g.T.Envelope.Point.Scalar.Number.value c.args.pivot in
    let same = IsPermutation-trans _ _ _ c.loop-at.invariant.same c.swap.ensures.permutation in
    elim c.if-first.branch [
      | then-first w ↦ record {
        same = same;
        around = rw w.less-is (placed_first _ pivot _ _ _ _ c.loop-at.invariant.around c.swap.ensures.by_index c.swap.ensures.len (omega arith)
            (λ d. subst (λ z. z ≤ℤ pivot) (c.key_at.ensures d) (c.is_first-first.ensures.first w.if-first.true)));
      }
      | else-first w ↦ record {
        same = same;
        around = rw w.less-is (placed_behind _ pivot _ _ _ _ c.loop-at.invariant.around c.swap.ensures.by_index c.swap.ensures.len (omega arith)
            (λ d. subst (λ z. pivot ≤ℤ z) (c.key_at.ensures d) (c.is_first-first.ensures.other w.if-first.false)));
      }
    ]
