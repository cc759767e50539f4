use Rattle.std.proofs.Common.{◌≡◌, pos, unsigned_abs}
use Rattle.rstar_base.specs.Distances.{least_below}
use Rattle.rstar_base_vectors.proofs.Faces.{face_on}
use Rattle.rstar_base_vectors.proofs.frames.nearest_face.Given as goal

-- the least over the axes so far
abbrev pub invariant-loop-axis : goal.invariant-loop-axis
invariant-loop-axis g l =
    let k = g.P.Point.coord in
    g.P.Scalar.Number.value l.nearest ≡ pos (least_below (unsigned_abs g.P.Scalar.Bounded.high) l.axis (face_on (k l.one) (k l.other) (k l.point)))
