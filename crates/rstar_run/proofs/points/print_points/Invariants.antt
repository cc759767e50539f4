use Rattle.std.proofs.Common.{drop}
use Rattle.rstar_run.specs.Points.{points_text}
use Rattle.rstar_run.proofs.Prints.{PrintsBut}
use Rattle.rstar_run.proofs.points.print_points.Given as goal

-- all is printed but the lines of the points from the index on
abbrev pub invariant-loop-point : goal.invariant-loop-point
invariant-loop-point g l =
    PrintsBut (g.W.Write.contents l.fn.output) (g.W.Write.contents l.output) l.fn.printer.held.items (points_text l.fn.points) (points_text (drop l.point-index l.fn.points)) l.printer.held.items
