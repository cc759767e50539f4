use Rattle.rstar.proofs.rtree.RTree.nearest_neighbors.Goals as goal

pub returns-in-Some : goal.returns-in-Some
returns-in-Some g c = let found = rw c.in-Some.is at (rw c.in_ok-all.was at c.all_nearest.ensures.nearest) in (found.0, found.2.nearest)
