use Rattle.std.proofs.Common.{◌∙◌, ap}
use Rattle.rstar_base.proofs.envelope.copied_envelope.Goals as goal

pub returns-clause-same : goal.returns-clause-same
returns-clause-same g c =
    let v = g.E.Envelope.boxes in
    c.merged.ensures.merged ∙ ap (λ w. v.merge w c.args.e.now) c.new_empty.ensures ∙ g.met.E.Envelope.envelope_laws.merge_empty c.args.e.now c.merged.ensures.own.1
