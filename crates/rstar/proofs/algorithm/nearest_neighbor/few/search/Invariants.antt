use Rattle.std.proofs.Common.{◌≡◌, ◌≤◌}
use Rattle.rstar_base.specs.SmallHeaps.{items_of, IsOrdered}
use Rattle.rstar.specs.inside.Few.{is_one, kept_in, IsBest, IsSeeking, WaitAtDistance, waiting_parents}
use Rattle.rstar.specs.Nodes.{all_parents, elements_of, parents_of}
use Rattle.rstar.specs.inside.Searches.{any_first, nearest_on_top}
use Rattle.rstar.proofs.algorithm.nearest_neighbor.few.search.Given as goal

abbrev pub invariant-loop-current : goal.invariant-loop-current
invariant-loop-current g l = record {
  ordered : IsOrdered (nearest_on_top g.T.Distance.Ord.cmp any_first) l.heap;
  best : IsBest g.T.Distance.Ord.cmp g.E.TieOrder.order g.T.Distance.SquaredDistance.number l.most l.best;
  same : is_one l.best.kept ≡ is_one l.fn.best.kept;
  few : all_parents (waiting_parents (items_of l.heap)) ≤ parents_of l.fn.root;
  waiting : WaitAtDistance g.T.Cover.Merges.boxes g.T.Measured.distances (g.T.Measured.at l.fn.point) g.T.Distance.SquaredDistance.number (items_of l.heap);
  first : IsSeeking g.T.Cover.Merges.boxes g.T.Covered.object g.T.Measured.distances (g.T.Measured.at l.fn.point) g.E.TieOrder.order g.T.Distance.SquaredDistance.number l.most (elements_of l.fn.root) (waiting_parents (items_of l.heap)) l.best.bound (kept_in l.best.kept);
}

abbrev pub decreases-loop-current : goal.decreases-loop-current
decreases-loop-current g l = all_parents (waiting_parents (items_of l.heap))
