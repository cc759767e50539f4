-- Lists of items that are made of corners and IDs.
use Rattle.std.proofs.Common.{◌≡◌, ◌∙◌, ◌+◌, ◌<◌, ◌≤◌, ◌^◌, if◌then◌else◌, ℕ, zero, suc, Bool, true, false, List, [], ◌∷◌, ◌++◌, filter, take, min, length, get_or, refl, subst, sym, ap, ap₂, arith}
use Rattle.std.specs.List.Sorted.{IsPermutation}
use Rattle.rstar_base.specs.Counts.{usize_max}
use Rattle.rstar_c.specs.declared.items.Corners.{Corners}
use Rattle.rstar_c.specs.Items.{Item, item_of, items_of}

items-more : (cs : List Corners) (ns : List ℕ) (i : ℕ) (c : Corners) → i < length cs → i < length ns
    → take (i + 1) (items_of cs ns) ≡ take i (items_of cs ns) ++ item_of (get_or ns i 0) (get_or cs i c) ∷ []
items-more [] ns i b lt lt' = absurd (omega arith)
items-more (c ∷ cs) [] i b lt lt' = absurd (omega arith)
items-more (c ∷ cs) (n ∷ ns) zero b lt lt' = refl
items-more (c ∷ cs) (n ∷ ns) (suc i) b lt lt' =
    ap (λ k. take k (items_of (c ∷ cs) (n ∷ ns))) (next i) ∙ ap (λ es. item_of n c ∷ es) (items-more cs ns i b (omega arith) (omega arith))
  where
    next : (k : ℕ) → suc k + 1 ≡ suc (k + 1)
    next k = omega arith

-- one item more is made
pub made-more : (cs : List Corners) (ns : List ℕ) (i : ℕ) (c : Corners) (items more : List Item) (item : Item) → items ≡ take i (items_of cs ns) → more ≡ items ++ item ∷ []
    → item ≡ item_of (get_or ns i 0) (get_or cs i c) → length cs ≡ length ns → i < length ns → more ≡ take (i + 1) (items_of cs ns)
made-more cs ns i c items more item made is this same lt =
    let lt' : i < length cs = omega arith in
    is ∙ ap₂ (λ es e. es ++ e ∷ []) made this ∙ sym (items-more cs ns i c lt' lt)

pub items-few : (cs : List Corners) (ns : List ℕ) → length (items_of cs ns) ≤ length ns
items-few [] ns = omega arith
items-few (c ∷ cs) [] = omega arith
items-few (c ∷ cs) (n ∷ ns) = let few = items-few cs ns in omega arith

-- what stands in this order is a list in some order
pub arranged : {A : Type 0} {xs ys zs : List A} → xs ≡ ys → IsPermutation ys zs → IsPermutation xs zs
arranged {A} {xs} {ys} {zs} e all = subst (λ ts. IsPermutation ts zs) (sym e) all

-- a count that fits is exact
pub filter-fewer : {X : Type 0} (p : X → Bool) (xs : List X) → length (filter p xs) ≤ length xs
filter-fewer p [] = omega arith
filter-fewer {X} p (x ∷ xs) = by (p x) (filter-fewer p xs)
  where
    by : (b : Bool) → length (filter p xs) ≤ length xs → length (if b then x ∷ filter p xs else filter p xs) ≤ length (x ∷ xs)
    by true few = omega arith
    by false few = omega arith

pub exact : (n m all : ℕ) → n ≡ min (0 + m) usize_max → m ≤ all → all < 2 ^ 64 → n ≡ m
exact n m all e le lt = omega arith
