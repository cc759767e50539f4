use Rattle.std.proofs.Common.{◌≡◌, ◌++◌, length}
use Rattle.rstar.specs.Joins.{meets_by, pairs_to_come, IsJoining}
use Rattle.rstar.proofs.replay.answers.clones_of_pairs.Given as goal

-- clones of what was given, and what is still to come
abbrev pub invariant-loop-t : goal.invariant-loop-t
invariant-loop-t g l = record {
  joining : IsJoining (meets_by g.T.Cover.Merges.boxes g.U.Meets.seen) g.T.Covered.object.box_of g.U.Covered.object.box_of l.items;
  rest : l.pairs.items ++ pairs_to_come (meets_by g.T.Cover.Merges.boxes g.U.Meets.seen) g.T.Covered.object.box_of g.U.Covered.object.box_of l.items ≡ pairs_to_come (meets_by g.T.Cover.Merges.boxes g.U.Meets.seen) g.T.Covered.object.box_of g.U.Covered.object.box_of l.fn.walk;
}

abbrev pub decreases-loop-t : goal.decreases-loop-t
decreases-loop-t g l = length (pairs_to_come (meets_by g.T.Cover.Merges.boxes g.U.Meets.seen) g.T.Covered.object.box_of g.U.Covered.object.box_of l.items)
