use Rattle.std.proofs.Common.{◌∙◌, sym}
use Rattle.std.proofs.lemmas.Bool.{not-true, not-false}
use Rattle.rstar_base.proofs.Around.{at_most_of_le, at_least_of_le}
use Rattle.rstar_base.proofs.partition.is_first.Goals as goal

pub returns-then-with_same-clause-first : goal.returns-then-with_same-clause-first
returns-then-with_same-clause-first g c = λ h. at_most_of_le _ _ (sym c.not_above.ensures ∙ h)

pub returns-then-with_same-clause-other : goal.returns-then-with_same-clause-other
returns-then-with_same-clause-other g c = λ h. at_least_of_le _ _ (sym c.not_above.ensures ∙ h)

pub returns-else-with_same-clause-first : goal.returns-else-with_same-clause-first
returns-else-with_same-clause-first g c = λ h. at_least_of_le _ _ (sym c.not_above-reaches.ensures ∙ not-true _ h)

pub returns-else-with_same-clause-other : goal.returns-else-with_same-clause-other
returns-else-with_same-clause-other g c = λ h. at_most_of_le _ _ (sym c.not_above-reaches.ensures ∙ not-false _ h)
