use Rattle.std.proofs.Common.{◌≡◌, ◌∙◌, List, ◌∷◌, ◌++◌, [], map, Result, Ok, Option, None, ap, sym, subst}
use Rattle.std.specs.Iterator.{Yields, Drains}
use Rattle.std.proofs.lemmas.List.{map-append}
use Rattle.rstar_vectors.proofs.neighbours.listed.Goals as goal

one-more-ok : {A Z : Type 0} (yielded : List (Result A Z)) (all more : List A) (r : Result A Z) (x : A) → yielded ≡ map Ok all → r ≡ Ok x → more ≡ all ++ x ∷ [] → yielded ++ r ∷ [] ≡ map Ok more
one-more-ok yielded all more r x so is m = ap (λ l. l ++ r ∷ []) so ∙ ap (λ s. map Ok all ++ s ∷ []) is ∙ sym (map-append Ok all (x ∷ [])) ∙ ap (map Ok) (sym m)

drained-ok : {I A Z : Type 0} (gives : I → Option (Result A Z) → I → Type 0) {it start : I} (xs : List (Result A Z)) (all : List A) (t u : I) → it ≡ start → Yields gives it xs t → gives t None u → xs ≡ map Ok all → Drains gives start (map Ok all)
drained-ok gives {it} xs all t u same given ended is = (u, (t, subst (λ i. Yields gives i (map Ok all) t) same (subst (λ l. Yields gives it l t) is given), ended))

pub loop-item-preserved : goal.loop-item-preserved
loop-item-preserved g c = one-more-ok _ _ _ _ _ c.loop-item.invariant c.in_ok-found.was c.in_ok-push.ensures.items

pub returns : goal.returns
returns g c = drained-ok g.I.Iterator.next_gives _ _ _ _ c.into_iter-item-iterator.ensures.into_iter_gives c.loop-item.yielded_by c.in-None.ensures.steps c.loop-item.invariant
