use Rattle.rstar.specs.ByOrder.{IsSearchingByOrder}
use Rattle.rstar.proofs.rtree.RTree.nearest_neighbor_iter_by_order.Goals as goal

pub returns : goal.returns
unfolding IsSearchingByOrder
returns g c = record { begun = c.new-search.ensures.begun _; searching = c.new-search.ensures.ready _ }
