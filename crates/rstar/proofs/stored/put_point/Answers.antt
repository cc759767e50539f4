use Rattle.std.proofs.Common.{rules, ap, ◌∙◌, ◌++◌}
use Rattle.rstar.proofs.storing.Written.{number_is, two_put, place_is}
use Rattle.rstar.proofs.stored.put_point.Goals as goal

pub returns-clause-put : goal.returns-clause-put
returns-clause-put c =
    let items = two_put c.args.p c.args.out.now.items c.put_bytes.new.out.items _ (place_is c.args.p (search rules) c.known.ensures.range)
    (c.put_bytes.ensures.items ∙ ap (λ u. c.args.out.now.items ++ u) (c.to_le_bytes.ensures ∙ number_is _))
    (c.put_bytes-2.ensures.items ∙ ap (λ u. c.put_bytes.new.out.items ++ u) (c.to_le_bytes-2.ensures ∙ number_is _)) in
    search rules

pub returns-clause-place : goal.returns-clause-place
returns-clause-place c = place_is c.args.p (search rules) c.known.ensures.range
