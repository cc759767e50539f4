use Rattle.rstar_base.proofs.aabb.AABBEnvelope.min_max_dist_2.Goals as goal

pub returns-clause-value : goal.returns-clause-value
returns-clause-value g c = rw (← c.self.view_is) c.min_max_distance.ensures
