use Rattle.std.proofs.Common.{◌≡◌}
use Rattle.rstar.specs.inside.PairWalks.{frames_of, pairs_by, GoesOn, steps_of_frames}
use Rattle.rstar.specs.Joins.{meets_by}
use Rattle.rstar.proofs.iterators.joins.walk.PairWalk.advance.Given as goal

-- the same walk, with the same to come
abbrev pub invariant-loop-t : goal.invariant-loop-t
invariant-loop-t g l =
    let meets = meets_by g.T.Cover.Merges.boxes g.U.Meets.seen in let left_box = g.T.Covered.object.box_of in
    let right_box = g.U.Covered.object.box_of in
    record {
      on : GoesOn meets left_box right_box l.initial.self l.self;
      same : pairs_by meets left_box right_box l.initial.self ≡ pairs_by meets left_box right_box l.self;
    }

abbrev pub decreases-loop-t : goal.decreases-loop-t
decreases-loop-t g l = steps_of_frames (frames_of l.self)
