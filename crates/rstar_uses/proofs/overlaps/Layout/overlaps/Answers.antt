use Rattle.std.proofs.Common.{◌≡◌, List, map, IfOk, IsPermutation, Result, Vec, vec_items, subst}
use Rattle.rstar_uses.specs.Numbered.{overlaps}
use Rattle.rstar_uses.proofs.overlaps.Layout.overlaps.Goals as goal

of-the-view : {A B N Z E : Type 0} (f : B → A) (answer : List N → List A) (xs now : List N) (r : Result (Vec B Z) E) → xs ≡ now
    → IfOk r (λ v. IsPermutation (map f (vec_items v)) (answer xs)) → IfOk r (λ v. IsPermutation (map f (vec_items v)) (answer now))
of-the-view {N = N} f answer xs now r e h = subst (λ (l : List N). IfOk r (λ v. IsPermutation (map f (vec_items v)) (answer l))) e h

pub returns : goal.returns
returns c = of-the-view _ overlaps _ _ c.met_of_two_parts.result c.self.view_is c.met_of_two_parts.ensures
