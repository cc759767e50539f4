-- Lists of IDs.
use Rattle.std.proofs.Common.{◌≡◌, ℕ, ◌<◌, ◌≤◌, List, [], ◌∷◌, length, get_or, map, sym, subst, arith}
use Rattle.std.specs.List.Sorted.{IsNonDecreasingBy, IsNonDecreasing}
use Rattle.std.proofs.lemmas.List.{length-map, get_or-map}

-- the numbers of items that ascend by them
pub ascending : {T : Type 0} (f : T → ℕ) (xs : List T) → IsNonDecreasingBy f xs → IsNonDecreasing (map f xs)
ascending f [] h i j d k l = absurd (omega arith)
ascending {T} f (x ∷ xs) h i j d k l =
    let long : length (map f (x ∷ xs)) ≡ length (x ∷ xs) = length-map (x ∷ xs) f in
    let high : j < length (x ∷ xs) = omega (arith, l, long) in
    let low : i < length (x ∷ xs) = omega (arith, k, high) in
    subst (λ (a : ℕ). a ≤ get_or (map f (x ∷ xs)) j d) (sym (get_or-map f (x ∷ xs) i x d low))
    (subst (λ (b : ℕ). f (get_or (x ∷ xs) i x) ≤ b) (sym (get_or-map f (x ∷ xs) j x d high)) (h i j x k high))
