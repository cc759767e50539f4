use Rattle.std.proofs.Common.{take}
use Rattle.rstar.specs.inside.Few.{Visits}
use Rattle.rstar.proofs.algorithm.nearest_neighbor.few.open.Given as goal

-- the nodes so far are visited
abbrev pub invariant-loop-child : goal.invariant-loop-child
invariant-loop-child g l =
    Visits g.T.Distance.Ord.cmp g.E.TieOrder.order g.T.Distance.SquaredDistance.number l.most g.T.Cover.Merges.boxes g.T.Covered.object g.T.Measured.distances (g.T.Measured.at l.fn.point) (take l.child-index l.children) l.fn.heap l.fn.best l.heap l.best
