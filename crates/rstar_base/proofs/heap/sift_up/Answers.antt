use Rattle.std.proofs.Common.{◌∙◌, arith}
use Rattle.std.proofs.HeapSift as sifts
use Rattle.std.proofs.lemmas.List.Sorted.{IsPermutation-refl, IsPermutation-trans}
use Rattle.rstar_base.proofs.heap.sift_up.Goals as goal

pub loop-at-init : goal.loop-at-init
loop-at-init g c = record {
  low = omega arith;
  same = IsPermutation-refl c.args.items.now;
  rising = sifts.rise_begins g.X.Ord.cmp g.met.X.Ord.total c.args.items.now c.args.start;
}

pub loop-at-preserved : goal.loop-at-preserved
loop-at-preserved g c = record {
  low = omega arith;
  same = IsPermutation-trans c.args.items.now c.loop-at.items c.swap.new.self c.loop-at.invariant.same c.swap.ensures.permutation;
  rising = sifts.rise_steps g.X.Ord.cmp g.met.X.Ord.total c.args.items.now c.loop-at.items c.swap.new.self c.args.start c.loop-at.at (omega arith) (omega arith) (omega arith) c.swap.ensures.after (λ d. c.is_less.ensures d ∙ c.if-is_less.true) c.loop-at.invariant.rising;
}

pub returns-else-is_less-clause-rises : goal.returns-else-is_less-clause-rises
returns-else-is_less-clause-rises g c = sifts.rise_rests g.X.Ord.cmp g.met.X.Ord.total c.args.items.now c.loop-at.items c.args.start c.loop-at.at (λ d. c.is_less.ensures d ∙ c.if-is_less.false) c.loop-at.invariant.rising

pub returns-after-loop-at-clause-rises : goal.returns-after-loop-at-clause-rises
returns-after-loop-at-clause-rises g c = sifts.rise_tops g.X.Ord.cmp g.met.X.Ord.total c.args.items.now c.loop-at.items c.args.start c.loop-at.at (omega arith) c.loop-at.invariant.rising
