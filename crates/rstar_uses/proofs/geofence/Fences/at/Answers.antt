use Rattle.std.proofs.Common.{◌≡◌, List, Bool, map, filter, IfOk, IsPermutation, Result, Vec, vec_items, Ok, Err, subst, sym}
use Rattle.std.proofs.lemmas.List.Sorted.{IsPermutation-refl}
use Rattle.rstar_uses.specs.Numbered.{covers}
use Rattle.rstar_uses.proofs.geofence.Fences.at.Goals as goal

in-some-order : {A B Z E : Type 0} (f : B → A) (p : A → Bool) (xs now : List A) (r : Result (Vec B Z) E) → xs ≡ now
    → IfOk r (λ v. map f (vec_items v) ≡ filter p xs) → IfOk r (λ v. IsPermutation (filter p now) (map f (vec_items v)))
in-some-order f p xs now (Ok v) e h = subst (λ l. IsPermutation (filter p l) (map f (vec_items v))) e (subst (IsPermutation (filter p xs)) (sym h) (IsPermutation-refl _))
in-some-order f p xs now (Err x) e h = h

pub returns : goal.returns
returns c = in-some-order _ (covers c.args.point) _ _ c.all_at.result c.self.view_is c.all_at.ensures
