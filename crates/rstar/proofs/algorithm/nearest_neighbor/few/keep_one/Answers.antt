use Rattle.rstar.proofs.searching.Few.{kept-one}
use Rattle.rstar.proofs.algorithm.nearest_neighbor.few.keep_one.Goals as goal

pub returns-then-is_greatest : goal.returns-then-is_greatest
returns-then-is_greatest g c = kept-one g.X.Ord.cmp c.args.item c.args.found.now c.is_greatest.result c.is_greatest.ensures c.if-is_greatest.true
