use Rattle.std.proofs.Common.{map}
use Rattle.rstar.specs.Nodes.{total}
use Rattle.rstar.specs.inside.Traversals.{steps}
use Rattle.rstar.proofs.searching.Ties.{AreToCome}
use Rattle.rstar.proofs.algorithm.nearest_neighbor.ties.+add_within.Given as goal

abbrev pub decreases-add_within : goal.decreases-add_within
decreases-add_within g l = total (map steps l.nodes.now)

abbrev pub invariant-loop-node : goal.invariant-loop-node
invariant-loop-node g l =
    AreToCome g.T.Cover.Merges.boxes g.T.Covered.object g.T.Measured.distances (g.T.Measured.at l.fn.point) (g.T.Distance.SquaredDistance.number l.fn.limit) l.fn.nodes l.left (map (λ t. t.now) l.fn.all.items) (map (λ t. t.now) l.all.items)

abbrev pub decreases-loop-node : goal.decreases-loop-node
decreases-loop-node g l = total (map steps l.left)
