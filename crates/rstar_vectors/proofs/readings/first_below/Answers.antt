use Rattle.std.proofs.Common.{ap, filter, sym, subst, rules}
use Rattle.rstar.specs.Nodes.{elements_of}
use Rattle.rstar.specs.Visits.{IsFirst}
use Rattle.rstar.proofs.visiting.Visits.{visit_all}
use Rattle.rstar_vectors.proofs.FirstSeen.{first_seen}
use Rattle.rstar_vectors.proofs.readings.first_below.Goals as goal

pub returns : goal.returns
returns g c =
    let all = visit_all _ _ (ap (λ s. filter s (elements_of c.args.root.now)) c.new-func.ensures.selects) (c.requires, c.new-func.ensures.lawful) (record { last = c.select_nodes.new.visitor; within = c.select_nodes.ensures }) in
    subst (IsFirst _) (sym c.break_value.ensures.value) (first_seen _ _ _ _ all (λ v x r w breaks. search rules))
