use Rattle.std.proofs.Common.{◌≡◌, ◌++◌, take}
use Rattle.std.specs.List.Sorted.{IsPermutation}
use Rattle.rstar_base.specs.SmallHeaps.{IsOrdered}
use Rattle.rstar.specs.inside.Searches.{nearest_on_top, waiting_nodes, AreWaiting, held_by}
use Rattle.rstar.proofs.algorithm.nearest_neighbor.search.NodeSearch+T+O.add_children.Given as goal

-- the nodes so far wait too
abbrev pub invariant-loop-node : goal.invariant-loop-node
invariant-loop-node g l = record {
  root : l.self.root ≡ l.fn.self.root;
  stage : l.self.stage ≡ l.fn.self.stage;
  opened : l.self.opened ≡ l.fn.self.opened;
  ordered : IsOrdered (nearest_on_top g.T.Distance.Ord.cmp g.O.TieOrder.order) l.self.heap;
  waiting : AreWaiting g.T.Cover.Merges.boxes g.T.Measured.distances (g.T.Measured.at l.fn.point) g.T.Distance.Ord.cmp g.O.TieOrder.order g.T.Distance.SquaredDistance.number l.fn.self.heap
      → AreWaiting g.T.Cover.Merges.boxes g.T.Measured.distances (g.T.Measured.at l.fn.point) g.T.Distance.Ord.cmp g.O.TieOrder.order g.T.Distance.SquaredDistance.number l.self.heap;
  added : IsPermutation (waiting_nodes (held_by l.fn.self) ++ take l.node-index l.children) (waiting_nodes (held_by l.self));
}
