use Rattle.std.proofs.Common.{◌≡◌, ◌∙◌, List, Bool, [], ◌∷◌, Option, None, Some, sym}
use Rattle.std.specs.Borrow.{Bor}
use Rattle.std.specs.Prelude.{MatchOption}
use Rattle.rstar.specs.declared.iterators.selection.SelectionIterator.{SelectionIterator}
use Rattle.rstar.specs.Selections.{to_come, GivesNext}
use Rattle.rstar_vectors.proofs.places.first_inside.Goals as goal

first_of : {T F E : Type 0} {accepts : F → E → Bool} {selects : F → T → Bool} (it : SelectionIterator T F E) (xs : List T) → to_come accepts selects it ≡ xs
    → (r : Option (Bor T)) (u : SelectionIterator T F E) → GivesNext accepts selects it r u → MatchOption r (xs ≡ []) (λ t. (rest : List T) × (xs ≡ t.now ∷ rest))
first_of it xs e None u h = sym e ∙ h.gives.0
first_of {accepts = accepts} {selects = selects} it xs e (Some t) u h = (to_come accepts selects u, sym e ∙ h.gives)

pub returns-in-Ok : goal.returns-in-Ok
returns-in-Ok g c = first_of _ _ c.in-Ok.ensures.all c.next.result _ c.next.ensures.steps
