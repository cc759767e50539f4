use Rattle.rstar_vectors.proofs.neighbours.one_below.Goals as goal

pub returns-clause-none : goal.returns-clause-none
returns-clause-none g c = rw c.root.ensures.shown at c.nearest_neighbor_with_distance_2.ensures.none

pub returns-clause-one : goal.returns-clause-one
returns-clause-one g c = rw c.root.ensures.shown at c.nearest_neighbor_with_distance_2.ensures.nearest
