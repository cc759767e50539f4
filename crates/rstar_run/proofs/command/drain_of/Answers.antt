use Rattle.std.proofs.Common.{rules, ◌∙◌}
use Rattle.std.specs.Str.{IsUtf8}
use Rattle.rstar_run.proofs.Commands.{drain_none}
use Rattle.rstar_run.proofs.command.drain_of.Goals as goal

pub returns-in_err-ok-clause-is : goal.returns-in_err-ok-clause-is
returns-in_err-ok-clause-is c =
    let no_text : ¬ (IsUtf8 c.args.area.now) = search rules in
    c.from_residual.ensures ∙ drain_none c.args.area.now c.args.corners c.args.most no_text
