use Rattle.std.proofs.Common.{◌≡◌}
use Rattle.rstar.specs.Nodes.{all_parents}
use Rattle.rstar.specs.inside.Searches.{waiting_nodes, held_by}
use Rattle.rstar.specs.inside.SearchSteps.{IsUnderWay}
use Rattle.rstar.proofs.algorithm.nearest_neighbor.search.NodeSearch+T+O.advance.Given as goal

-- the search goes on, with the same elements, and no more parents than waited first
abbrev pub invariant-loop-current : goal.invariant-loop-current
invariant-loop-current g l = record {
  root : l.self.root ≡ l.fn.self.root;
  stage : l.self.stage ≡ l.fn.self.stage;
  under_way : IsUnderWay g.T.Cover.Merges.boxes g.T.Measured.distances (g.T.Measured.at l.fn.point) g.T.Distance.Ord.cmp g.O.TieOrder.order g.T.Distance.SquaredDistance.number g.T.Covered.object l.fn.self.root.now (waiting_nodes (held_by l.fn.self)) l.self.heap l.self.opened;
}

abbrev pub decreases-loop-current : goal.decreases-loop-current
decreases-loop-current g l = all_parents (waiting_nodes (held_by l.self))
