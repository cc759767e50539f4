use Rattle.std.proofs.Common.{ap, ◌∙◌, ◌++◌}
use Rattle.rstar.proofs.storing.Written.{number_is, front_put}
use Rattle.rstar.proofs.stored.headed.Goals as goal

pub returns-clause-spelled : goal.returns-clause-spelled
returns-clause-spelled c = front_put c.in_ok-out.out.items c.put_bytes.new.out.items c.put_bytes-2.new.out.items _ c.args.count c.args.height
    c.in_ok-out.ensures.items c.put_bytes.ensures.items (c.put_bytes-2.ensures.items ∙ ap (λ u. c.put_bytes.new.out.items ++ u) (c.to_le_bytes.ensures ∙ number_is _)) c.push_reserved.ensures.items
