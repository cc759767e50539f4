use Rattle.std.proofs.Common.{◌<◌, arith}
use Rattle.std.proofs.lemmas.List.Sorted.{IsPermutation-trans}
use Rattle.rstar.proofs.algorithm.rstar.split.least_axis.Goals as goal
use Rattle.rstar.proofs.algorithm.rstar.split.least_axis.Goals.{then-lt, else-lt}

pub loop-axis-preserved : goal.loop-axis-preserved
loop-axis-preserved g c =
    let same = IsPermutation-trans _ _ _ c.loop-axis.invariant.same c.sort_envelopes-in-loop-axis.ensures.same in
    let below : c.loop-axis.axis < g.T.Envelope.Point.Point.DIMENSIONS = omega (arith, c.DIMENSIONS-axis-end.ensures) in
    elim c.if-lt.branch [
      | then-lt w ↦ record { same = same; best = rw w.best-is below }
      | else-lt w ↦ record { same = same; best = rw w.best-is c.loop-axis.invariant.best }
    ]
