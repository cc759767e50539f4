use Rattle.std.proofs.Common.{length, map, ◌*◌, ◌≤◌}
use Rattle.rstar.specs.Lists.{product}
use Rattle.rstar.specs.Nodes.{node_box}
use Rattle.rstar.specs.Joins.{meets_by}
use Rattle.rstar.proofs.joining.MarkedPairs.{IsMarked}
use Rattle.rstar.proofs.iterators.joins.walk.marks_of.Given as goal

-- of at most 64 pairs there are marks for the rows behind the rest
abbrev pub invariant-loop-left : goal.invariant-loop-left
invariant-loop-left g l = length l.lefts * length l.rights ≤ 64
    → IsMarked (λ ls. map (λ p. meets_by g.T.Cover.Merges.boxes g.U.Meets.seen (node_box g.T.Covered.object.box_of p.0) (node_box g.U.Covered.object.box_of p.1)) (product ls l.rights)) l.lefts l.rest 0 l.marks

abbrev pub decreases-loop-left : goal.decreases-loop-left
decreases-loop-left g l = length l.rest
