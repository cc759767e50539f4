use Rattle.std.proofs.Common.{map}
use Rattle.rstar_base.proofs.Lists.{all_map}
use Rattle.rstar.specs.Nodes.{elements_of, children_of}
use Rattle.rstar.proofs.searching.Ties.{nearest-within}
use Rattle.rstar.proofs.algorithm.nearest_neighbor.ties.all_nearest.Goals as goal

pub add_within-requires-clause-parts : goal.add_within-requires-clause-parts
add_within-requires-clause-parts g c = rw c.deref.ensures.value (all_map _ _ (λ n w. (c.requires.height, w)) (children_of c.args.root.now) c.requires.below)

pub returns-clause-nearest : goal.returns-clause-nearest
returns-clause-nearest g c =
    let p = g.T.Measured.at c.args.point.now in
    let near = rw c.in-Some.is at c.in_ok-nearest.ensures.nearest in
    let reach = rw c.in-Some.is at c.in_ok-nearest.ensures.distance in (
      g.T.Measured.distances.distance_2 c.in-Some.nearest.0.now p,
      reach,
      nearest-within (λ t. g.T.Measured.distances.distance_2 t p) (elements_of c.args.root.now) (map (λ t. t.now) c.add_within.new.all.items) c.in-Some.nearest.0.now (g.T.Distance.SquaredDistance.number c.in-Some.nearest.1) near reach
          (rw (c.new-all.ensures.items, c.deref.ensures.value) at c.in_ok-add_within.ensures),
    )
