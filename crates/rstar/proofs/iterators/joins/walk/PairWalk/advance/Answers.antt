use Rattle.std.proofs.Common.{◌∙◌}
use Rattle.rstar.proofs.joining.PairWalks.{goes-on}
use Rattle.rstar.proofs.iterators.joins.walk.PairWalk.advance.Goals as goal

pub loop-t-preserved : goal.loop-t-preserved
loop-t-preserved g c = record {
  on = goes-on _ _ _ c.loop-t.invariant.on c.in-Passed.ensures.on;
  same = c.loop-t.invariant.same ∙ c.in-Passed.ensures.given;
}

pub returns-in-Ended : goal.returns-in-Ended
returns-in-Ended g c = record {
  on = goes-on _ _ _ c.loop-t.invariant.on c.in-Ended.ensures.on;
  given = (c.loop-t.invariant.same ∙ c.in-Ended.ensures.given, c.in-Ended.ensures.over);
}

pub returns-in-Found : goal.returns-in-Found
returns-in-Found g c = record {
  on = goes-on _ _ _ c.loop-t.invariant.on c.in-Found.ensures.on;
  given = c.loop-t.invariant.same ∙ c.in-Found.ensures.given;
}
