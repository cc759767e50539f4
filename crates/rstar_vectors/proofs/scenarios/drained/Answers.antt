use Rattle.rstar_vectors.proofs.Drained.{none-yielded, one-more-yielded}
use Rattle.rstar_vectors.proofs.scenarios.drained.Goals as goal

pub loop-item-init : goal.loop-item-init
loop-item-init g c = record {
  can = c.requires.can;
  ends = c.requires.ends;
  given = none-yielded g.I.Iterator.next_gives _ _ c.new-all.ensures.items;
}

pub loop-item-preserved : goal.loop-item-preserved
loop-item-preserved g c = record {
  can = c.in-Some.ensures.goes.keeps;
  ends = (c.in-Some.ensures.goes.on c.loop-item.invariant.ends).1;
  given = one-more-yielded g.I.Iterator.next_gives _ _ _ _ _ _ c.in_ok-push.ensures.items c.loop-item.invariant.given c.in-Some.ensures.steps;
}

pub returns : goal.returns
returns g c = (_, c.loop-item.invariant.given, c.in_default.ensures.steps)
