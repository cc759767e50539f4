use Rattle.std.proofs.Common.{rules, ◌≢◌, length}
use Rattle.rstar_run.proofs.Commands.{arity, lent_none}
use Rattle.rstar_run.proofs.command.parse_command.Goals as goal

pub returns-in_default-clause-is : goal.returns-in_default-clause-is
returns-in_default-clause-is c =
    let other : length c.args.args.now ≢ arity c.args.verb = search rules in
    lent_none c.args.verb c.args.args.now other
