use Rattle.rstar_vectors.proofs.neighbours.all_below.Goals as goal

pub returns : goal.returns
returns g c = rw c.root.ensures.shown at c.nearest_neighbors_with_distance_2.ensures.nearest
