use Rattle.rstar_run.specs.Points.{point_text}
use Rattle.rstar_run.proofs.Prints.{at_first, more, some_more, next_text, no_text, printed_all, front_of_printed}
use Rattle.rstar_run.proofs.points.print_points.Goals as goal

pub loop-point-init : goal.loop-point-init
loop-point-init g c = at_first _ _ _

pub returns-in_err-print_point-clause-front : goal.returns-in_err-print_point-clause-front
returns-in_err-print_point-clause-front g c =
    some_more _ _ c.loop-point.invariant (next_text point_text c.args.points.now c.loop-point.point-index _ c.loop-point-test.true) c.print_point.ensures.front

pub loop-point-preserved : goal.loop-point-preserved
loop-point-preserved g c =
    more _ c.loop-point.invariant (next_text point_text c.args.points.now c.loop-point.point-index _ c.loop-point-test.true) c.in_ok-print_point.ensures.all

pub returns-clause-all : goal.returns-clause-all
returns-clause-all g c = printed_all c.loop-point.invariant (no_text point_text c.args.points.now c.loop-point.point-index c.loop-point-test.false)

pub returns-clause-front : goal.returns-clause-front
returns-clause-front g c = front_of_printed (printed_all c.loop-point.invariant (no_text point_text c.args.points.now c.loop-point.point-index c.loop-point-test.false))
