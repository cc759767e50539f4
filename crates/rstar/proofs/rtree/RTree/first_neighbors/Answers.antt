use Rattle.rstar.specs.Trees.{IsWholeTree}
use Rattle.rstar.proofs.searching.ByOrder.{first-if-ok}
use Rattle.rstar.proofs.rtree.RTree.first_neighbors.Goals as goal

pub returns-clause-first : goal.returns-clause-first
unfolding IsWholeTree
returns-clause-first g c = first-if-ok _ _ _ _ c.first_nearest.result c.first_nearest.ensures.first
