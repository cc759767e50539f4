use Rattle.std.specs.Ordering.{flip_args}
use Rattle.rstar.proofs.searching.Few.{falls-front}
use Rattle.rstar.proofs.algorithm.nearest_neighbor.few.keep.Goals as goal

pub returns-clause-falls : goal.returns-clause-falls
returns-clause-falls g c = c.put-2.ensures.falls (falls-front (flip_args g.X.Ord.cmp) c.args.found.now.items c.pop.new.self.items c.pop.result c.pop.ensures.items c.requires)
