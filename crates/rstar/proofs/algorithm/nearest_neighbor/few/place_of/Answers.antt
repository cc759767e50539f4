use Rattle.std.proofs.Common.{◌≡◌, ◌+◌, ◌-◌, arith, sym, ◌∙◌}
use Rattle.std.specs.Ordering.{flip_args}
use Rattle.std.proofs.lemmas.Cmp.{back_total}
use Rattle.std.proofs.lemmas.List.{drop_more, get_or_default}
use Rattle.std.proofs.HeapSift as sifts
use Rattle.rstar_base.proofs.HeapParts.{rises-insert}
use Rattle.rstar.proofs.algorithm.nearest_neighbor.few.place_of.Goals as goal

pub loop-at-preserved : goal.loop-at-preserved
loop-at-preserved g c =
    let back : c.loop-at.at - 1 + 1 ≡ c.loop-at.at = omega arith in
    let split = rw (← c.index-items-at.is, back) at (drop_more c.args.items.now (c.loop-at.at - 1) c.index-items-at.result (omega arith)) in
    let less = rw (c.if-is_lt.true, c.cmp.ensures) at c.is_lt.ensures in
    record {
      within = omega arith;
      after = rw split ((sifts.ranks g.met.X.Ord.total).one_way c.index-items-at.result c.args.item.now (sym less), c.loop-at.invariant.after);
    }

pub returns-else-is_lt-clause-falls : goal.returns-else-is_lt-clause-falls
returns-else-is_lt-clause-falls g c = λ h. rises-insert (flip_args g.X.Ord.cmp) (back_total g.met.X.Ord.total) c.args.items.now c.loop-at.at c.args.item.now h (omega arith) c.loop-at.invariant.after
    (λ j d e.
    let same : j ≡ c.loop-at.at - 1 = omega (arith, e) in
    let read = c.index-items-at.is ∙ get_or_default c.args.items.now (c.loop-at.at - 1) c.index-items-at.result d (omega arith) in
    rw (same, ← read) (sym (rw (c.if-is_lt.false, c.cmp.ensures) at c.is_lt.ensures)))
