-- What a scan of a list answers: words over lists alone, in which no node, tree or heap occurs. All distances are squared.
use Rattle.std.specs.Prelude.{◌≡◌, ℕ, ◌<◌, ◌≤◌, ◌==◌, Bool, false, List, [], ◌∷◌, ◌++◌, length, map, filter, ⊤, All}
use Rattle.std.specs.List.{AllByRecursion, Contains}
use Rattle.std.specs.List.Sorted.{IsPermutation}
use Rattle.std.specs.Ordering.{on, then_cmp, nat_cmp, is_lt}
use Rattle.std.specs.declared.cmp.Ordering.{Ordering}
use Rattle.std.specs.declared.cmp.Ordering.TheVariants.{Equal}

-- the pairs of each item of the first list with each of the second
abbrev pub product : {A B : Type 0} → List A → List B → List (A × B)
product [] ys = []
product (x ∷ xs) ys = map (λ y. (x, y)) ys ++ product xs ys

-- no element of the list is selected
abbrev pub NoneSelected : {T : Type 0} → (T → Bool) → List T → Type 0
NoneSelected selects ts = AllByRecursion (λ t. selects t ≡ false) ts

-- no element of the list has an empty envelope
abbrev pub NoneEmpty : {T E : Type 0} → (E → Bool) → (T → E) → List T → Type 0
NoneEmpty is_empty box_of ts = All (λ t. is_empty (box_of t) ≡ false) ts

-- t does not come after u: u does not come before t
abbrev pub IsNotAfter : {T : Type 0} → (T → T → Ordering) → T → T → Type 0
IsNotAfter compare t u = is_lt (compare u t) ≡ false

-- ---- the first of a list, in an order: `before t u` says that t may stand before u

module _ {T : Type 0} (before : T → T → Type 0) where
  -- a list in an order: each element may stand before all behind it
  abbrev pub AreOrdered : List T → Type 0
  AreOrdered [] = ⊤
  AreOrdered (t ∷ ts) = AllByRecursion (before t) ts × AreOrdered ts

  -- a least element: it may stand before each
  pub record IsLeast (all : List T) (t : T) : Type 0 where
    pub member : Contains all t
    pub least : AllByRecursion (before t) all

  -- the first elements in an order, and those left: each of the first may stand before each of the others
  pub record AreFirst (all first left : List T) : Type 0 where
    pub bag : IsPermutation all (first ++ left)
    pub order : AreOrdered first
    pub least : AllByRecursion (λ t. AllByRecursion (before t) left) first

  -- the first `most` elements in an order; all where there are fewer
  pub record AreFirstOf (all : List T) (most : ℕ) (given : List T) : Type 0 where
    pub left : List T
    pub first : AreFirst all given left
    pub few : length given ≤ most
    pub enough : length given < most → left ≡ []

-- ---- the nearest of a list

-- t is at most as far as u
abbrev pub IsNoFarther : {T : Type 0} → (T → ℕ) → T → T → Type 0
IsNoFarther distance t u = distance t ≤ distance u

-- a nearest element: none is nearer
abbrev pub IsNearest : {T : Type 0} → (T → ℕ) → List T → T → Type 0
IsNearest distance all t = IsLeast (IsNoFarther distance) all t

-- all elements at the least distance d; there is one where the list has any
pub record AreNearest {T : Type 0} (distance : T → ℕ) (all : List T) (d : ℕ) (ts : List T) : Type 0 where
  pub least : AllByRecursion (λ u. d ≤ distance u) all
  pub bag : IsPermutation (filter (λ u. distance u == d) all) ts
  pub at : AllByRecursion (λ t. distance t ≡ d) ts
  pub some : ts ≡ [] → all ≡ []

-- all elements at the least distance d, at least one
pub record AreSomeNearest {T : Type 0} (distance : T → ℕ) (all : List T) (d : ℕ) (ts : List T) : Type 0 where
  pub nearest : AreNearest distance all d ts
  pub some : ts ≡ [] → ⊥

-- a list whose distances never fall
abbrev pub AreInOrder : {T : Type 0} → (T → ℕ) → List T → Type 0
AreInOrder distance ts = AreOrdered (IsNoFarther distance) ts

-- the `most` nearest elements, the nearest first; all where there are fewer
abbrev pub AreNearestOf : {T : Type 0} → (T → ℕ) → List T → ℕ → List T → Type 0
AreNearestOf distance all most nearest = AreFirstOf (IsNoFarther distance) all most nearest

-- ---- the stated order: by distance, and at equal distance by the elements' own order, `compare`

-- the stated order: by distance, and at equal distance by `compare`
abbrev pub by_distance : {T : Type 0} → (T → ℕ) → (T → T → Ordering) → T → T → Ordering
by_distance distance compare = then_cmp (on distance nat_cmp) compare

-- t does not come after u in the stated order
abbrev pub IsNotLater : {T : Type 0} → (T → ℕ) → (T → T → Ordering) → T → T → Type 0
IsNotLater distance compare t u = IsNotAfter (by_distance distance compare) t u

-- two lists are equal, up to elements that compare equal
abbrev pub AreAlike : {T : Type 0} → (T → T → Ordering) → List T → List T → Type 0
AreAlike compare [] [] = ⊤
AreAlike compare (t ∷ ts) (u ∷ us) = (compare t u ≡ Equal) × AreAlike compare ts us
AreAlike compare [] (u ∷ us) = ⊥
AreAlike compare (t ∷ ts) [] = ⊥
