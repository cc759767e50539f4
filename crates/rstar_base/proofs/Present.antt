-- The values that a list of full places holds.
use Rattle.std.proofs.Common.{◌≡◌, ℕ, List, [], ◌∷◌, length, map, refl, ap, ◌∙◌, arith, IsSome, Option, Some, None, unwrap_or}
use Rattle.std.specs.List.{AllByRecursion, refill}
use Rattle.std.proofs.Math.Seq.{take-length}
use Rattle.std.proofs.lemmas.List.{take-append-le}
use Rattle.std.specs.List.Sorted.{IsPermutation}
use Rattle.std.proofs.lemmas.List.Sorted.{IsPermutation-map}
use Rattle.rstar_base.specs.SmallHeaps.{present}
use Rattle.rstar_base.proofs.Lists.{all_along}

abbrev pub AreFull : {X : Type 0} → List (Option X) → Type 0
AreFull os = AllByRecursion IsSome os

pub present-map : {X : Type 0} (d : X) (os : List (Option X)) → AreFull os → present os ≡ map (λ o. unwrap_or o d) os
present-map d [] h = refl
present-map d (None ∷ os) h = let n = h.0 in cc
present-map d (Some x ∷ os) h = ap (λ l. x ∷ l) (present-map d os h.1)

pub full-permutation : {X : Type 0} (os ps : List (Option X)) → IsPermutation os ps → AreFull os → AreFull ps
full-permutation = all_along IsSome

pub present-permutation : {X : Type 0} (d : X) (os ps : List (Option X)) → IsPermutation os ps → AreFull os → IsPermutation (present os) (present ps)
present-permutation {X} d os ps p h =
    let m = IsPermutation-map (λ (o : Option X). unwrap_or o d) os ps p in
    rw (present-map d os h, present-map d ps (full-permutation os ps p h)) m

pub length-present : {X : Type 0} (os : List (Option X)) → AreFull os → length (present os) ≡ length os
length-present [] h = refl
length-present (None ∷ os) h = let n = h.0 in cc
length-present (Some x ∷ os) h = let e = length-present os h.1 in omega arith

-- as many items written back are the items
pub refill-same : {X : Type 0} (n : ℕ) (xs ws : List X) → length ws ≡ n → refill n xs ws ≡ ws
refill-same n xs ws e = rw (← e) (take-append-le (length ws) ws _ (omega arith) ∙ take-length ws)
