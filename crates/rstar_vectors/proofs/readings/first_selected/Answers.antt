use Rattle.std.proofs.Common.{ap, filter, sym, subst, rules}
use Rattle.rstar.specs.Trees.{elements_in}
use Rattle.rstar.specs.Visits.{IsFirst}
use Rattle.rstar.proofs.visiting.Visits.{visit_all}
use Rattle.rstar_vectors.proofs.FirstSeen.{first_seen}
use Rattle.rstar_vectors.proofs.readings.first_selected.Goals as goal

pub returns : goal.returns
returns g c =
    let all = visit_all _ _ (ap (λ s. filter s (elements_in c.args.tree.now)) c.new-func.ensures.selects) c.new-func.ensures.lawful c.locate_with_selection_function_int-found.ensures in
    subst (IsFirst _) (sym c.break_value.ensures.value) (first_seen _ _ _ _ all (λ v x r w breaks. search rules))
