-- Small heaps: priority queues whose first items lie inline.
use Rattle.std.specs.Prelude.{◌≡◌, ◌≤◌, List, [], ◌∷◌, ◌++◌, length, false, Option, Some, None, IsSome, ⊤, refl}
use Rattle.std.specs.List.{AllByRecursion}
use Rattle.std.specs.Ordering.{is_lt}
use Rattle.std.specs.declared.cmp.Ordering.{Ordering}
use Rattle.std.specs.BinaryHeap.{IsHeap}
use Rattle.std.specs.Coded.{Coded, code_by, coded×, coded_list}
use Rattle.arrayvec.specs.ArrayVec.{ArrayVec}

-- the items of a heap: the inline ones, and the rest
pub record Held (X : Type 0) : Type 0 where
  pub inline : List X
  pub rest : List X

abbrev pub held_code : {X : Type 0} → Coded X → Coded (Held X)
held_code {X} code =
    code_by (List X × List X) (coded× (coded_list code) (coded_list code)) (λ h. (h.inline, h.rest))
    (λ p. record { inline = p.0; rest = p.1 }) (λ _. refl)

-- all items of a heap
abbrev pub items_of : {X : Type 0} → Held X → List X
items_of h = h.inline ++ h.rest

-- a sorted list: no item is less than one before it
abbrev pub Rises : {X : Type 0} → (X → X → Ordering) → List X → Type 0
Rises R [] = ⊤
Rises R (x ∷ xs) = AllByRecursion (λ y. is_lt (R y x) ≡ false) xs × Rises R xs

-- the inline items are sorted, and the rest is a binary heap
unfoldable pub IsOrdered : {X : Type 0} → (X → X → Ordering) → Held X → Type 0
IsOrdered R h = Rises R h.inline × IsHeap R h.rest

-- ---- the inline places

-- the items of the taken places
abbrev pub present : {X : Type 0} → List (Option X) → List X
present [] = []
present (None ∷ os) = present os
present (Some x ∷ os) = x ∷ present os

-- at most 32 places, each with an item
pub record IsFilled {X : Type 0} (v : ArrayVec (Option X)) : Type 0 where
  pub full : AllByRecursion IsSome v.items
  pub few : length v.items ≤ 32
