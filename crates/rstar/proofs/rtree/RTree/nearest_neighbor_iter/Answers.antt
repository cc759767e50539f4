use Rattle.rstar.specs.Neighbors.{IsSearching}
use Rattle.rstar.proofs.rtree.RTree.nearest_neighbor_iter.Goals as goal

pub returns : goal.returns
unfolding IsSearching
returns g c = record { begun = c.new-search.ensures.begun _; searching = c.new-search.ensures.ready _ }
