use Rattle.std.proofs.Common.{◌∙◌, arith, length, subst}
use Rattle.std.proofs.HeapSift as sifts
use Rattle.std.specs.BinaryHeap.Sift.{IsGreaterChild}
use Rattle.std.proofs.lemmas.List.Sorted.{IsPermutation-refl, IsPermutation-trans}
use Rattle.rstar_base.proofs.heap.sift_down.Goals as goal

pub loop-at-init : goal.loop-at-init
loop-at-init g c = record {
  same = IsPermutation-refl c.args.items.now;
  sinking = sifts.sink_begins g.X.Ord.cmp g.met.X.Ord.total c.args.items.now 0 (length c.args.items.now);
}

pub loop-at-preserved : goal.loop-at-preserved
loop-at-preserved g c =
    let best = subst (λ n. IsGreaterChild g.X.Ord.cmp c.loop-at.items c.loop-at.at c.greater_child-child.result n) c.loop-at.auto.items c.greater_child-child.ensures.best in
    record {
      same = IsPermutation-trans c.args.items.now c.loop-at.items c.swap.new.self c.loop-at.invariant.same c.swap.ensures.permutation;
      sinking = sifts.sink_steps g.X.Ord.cmp g.met.X.Ord.total c.args.items.now c.loop-at.items c.swap.new.self 0 (length c.args.items.now) c.loop-at.at c.greater_child-child.result (omega arith) (omega arith) (omega arith) (omega arith) (omega arith) c.swap.ensures.after best (λ d. c.is_less.ensures d ∙ c.if-not-is_less.false) c.loop-at.invariant.sinking;
    }

pub returns-then-not-is_less-clause-sinks : goal.returns-then-not-is_less-clause-sinks
returns-then-not-is_less-clause-sinks g c =
    let best = subst (λ n. IsGreaterChild g.X.Ord.cmp c.loop-at.items c.loop-at.at c.greater_child-child.result n) c.loop-at.auto.items c.greater_child-child.ensures.best in
    sifts.sink_rests g.X.Ord.cmp g.met.X.Ord.total c.args.items.now c.loop-at.items 0 (length c.args.items.now) c.loop-at.at c.greater_child-child.result best (λ d. c.is_less.ensures d ∙ c.if-not-is_less.true) c.loop-at.invariant.sinking

pub returns-clause-sinks : goal.returns-clause-sinks
returns-clause-sinks g c = sifts.sink_ends g.X.Ord.cmp g.met.X.Ord.total c.args.items.now c.loop-at.items 0 (length c.args.items.now) c.loop-at.at (omega arith) c.loop-at.invariant.sinking
