use Rattle.rstar_run.specs.Lines.{bytes_left}
use Rattle.rstar_run.proofs.PointLines.{PointsSoFar}
use Rattle.rstar_run.proofs.points.read_points.Given as goal

-- the lines so far are good, and these are their points
abbrev pub invariant-loop : goal.invariant-loop
invariant-loop g l = PointsSoFar (g.R.Read.remaining l.fn.input) (bytes_left g.R.Read.remaining l.lines) l.lines.number l.points.items
