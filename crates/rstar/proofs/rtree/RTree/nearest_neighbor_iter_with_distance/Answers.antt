use Rattle.rstar.proofs.rtree.RTree.nearest_neighbor_iter_with_distance.Goals as goal

pub returns : goal.returns
returns g c = record { begun = c.nearest_neighbor_iter_with_distance_2.ensures.begun; searching = c.nearest_neighbor_iter_with_distance_2.ensures.searching }
