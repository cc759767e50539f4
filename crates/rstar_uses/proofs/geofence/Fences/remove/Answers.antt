use Rattle.std.proofs.Common.{◌≡◌, ◌∙◌, ◌∷◌, ◌↔◌, Bool, true, false, List, IsTrue, Contains, IsPermutation, subst, sym, refl}
use Rattle.rstar.specs.Lists.{NoneSelected}
use Rattle.rstar_uses.specs.Numbered.{Numbered}
use Rattle.rstar_uses.proofs.Lists.{none-there, taken-there}
use Rattle.rstar_uses.proofs.Numbered.{same, same-one, same-itself}
use Rattle.rstar_uses.proofs.geofence.Fences.remove.Goals as goal

-- xs is what is inside, and old the value that it shows
taken-one : (a : Numbered) (xs old new : List Numbered) → xs ≡ old → (t : Numbered) × (same t a ≡ true) × IsPermutation xs (t ∷ new) → IsPermutation old (a ∷ new)
taken-one a xs old new shown taken =
    subst (λ (l : List Numbered). IsPermutation l (a ∷ new)) shown (subst (λ (u : Numbered). IsPermutation xs (u ∷ new)) (same-one taken.0 a taken.1) taken.2)

was-there : (b : Bool) (a : Numbered) (xs old new : List Numbered) → xs ≡ old → (b ≡ true → (t : Numbered) × (same t a ≡ true) × IsPermutation xs (t ∷ new))
    → (b ≡ false → NoneSelected (λ t. same t a) xs) → IsTrue b ↔ Contains old a
was-there true a xs old new shown taken none = (λ _. taken-there a old new (taken-one a xs old new shown (taken refl)), λ _. refl)
was-there false a xs old new shown taken none =
    (λ e. cc, λ there. let e = sym (same-itself a) ∙ none-there (λ t. same t a) old a (subst (NoneSelected (λ t. same t a)) shown (none refl)) there in cc)

pub returns-clause-there : goal.returns-clause-there
returns-clause-there c = was-there _ _ _ _ _ c.self.view_is c.taken_out.ensures.taken c.taken_out.ensures.none

pub returns-clause-gone : goal.returns-clause-gone
returns-clause-gone c = λ e. taken-one _ _ _ _ c.self.view_is (c.taken_out.ensures.taken e)

pub returns-clause-unchanged : goal.returns-clause-unchanged
returns-clause-unchanged c = λ e. c.taken_out.ensures.unchanged e ∙ c.self.view_is
