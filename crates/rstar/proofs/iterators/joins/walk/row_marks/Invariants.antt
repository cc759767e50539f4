use Rattle.std.proofs.Common.{length, map, ◌≤◌, ◌<◌, ◌-◌, ◌^◌}
use Rattle.rstar.specs.Nodes.{node_box}
use Rattle.rstar.specs.Joins.{meets_by}
use Rattle.rstar.proofs.joining.MarkedPairs.{IsMarked}
use Rattle.rstar.proofs.iterators.joins.walk.row_marks.Given as goal

-- where there is room, there are marks for the nodes behind the rest
abbrev pub invariant-loop-node : goal.invariant-loop-node
invariant-loop-node g l = length l.nodes ≤ 64 → l.others < 2 ^ (64 - length l.nodes)
    → IsMarked (map (λ n. meets_by g.T.Cover.Merges.boxes g.U.Meets.seen l.envelope (node_box g.U.Covered.object.box_of n))) l.nodes l.rest l.others l.marks

abbrev pub decreases-loop-node : goal.decreases-loop-node
decreases-loop-node g l = length l.rest
