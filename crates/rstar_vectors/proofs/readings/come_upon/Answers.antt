use Rattle.std.proofs.Common.{sym, subst, rules}
use Rattle.rstar.specs.Visits.{IsFirst}
use Rattle.rstar_vectors.proofs.FirstSeen.{first_seen}
use Rattle.rstar_vectors.proofs.readings.come_upon.Goals as goal

pub returns-clause-inside : goal.returns-clause-inside
returns-clause-inside g c =
    subst (IsFirst _) (sym c.break_value-inside.ensures.value) (first_seen _ _ _ _ c.locate_in_envelope_int.ensures (λ v x r w breaks. search rules))

pub returns-clause-touching : goal.returns-clause-touching
returns-clause-touching g c =
    subst (IsFirst _) (sym c.break_value-touched.ensures.value) (first_seen _ _ _ _ c.locate_in_envelope_intersecting_int.ensures (λ v x r w breaks. search rules))

pub returns-clause-here : goal.returns-clause-here
returns-clause-here g c =
    subst (IsFirst _) (sym c.break_value-here.ensures.value) (first_seen _ _ _ _ c.locate_all_at_point_int.ensures (λ v x r w breaks. search rules))
