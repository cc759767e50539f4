use Rattle.std.proofs.Common.{ap, ◌∙◌}
use Rattle.rstar_run.specs.Fronts.{word_at}
use Rattle.rstar_run.specs.Numerals.{signed_of}
use Rattle.rstar_run.proofs.Commands.{point_taken}
use Rattle.rstar_run.proofs.Fronts.{word_behind}
use Rattle.rstar_run.proofs.command.take_point.Goals as goal

pub returns-clause-point : goal.returns-clause-point
returns-clause-point c =
    let text = c.args.text.now in
    point_taken (word_at text 0) (word_at text 1) _ _ c.in_ok-x.ensures.number (c.in_ok-y.ensures.number ∙ ap signed_of (word_behind text c.in_ok-x.text.now 1 0 c.in_ok-x.ensures.rest))
