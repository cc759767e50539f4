-- Vehicles: how far they wait, and equal ones.
use Rattle.std.proofs.Common.{◌≡◌, ◌∙◌, ◌&&◌, ◌==◌, ◌↔◌, ◌∷◌, ℕ, ℤ, Bool, true, List, pos, IsTrue, refl, sym, ap₂, subst, eqb-true, eq-eqb}
use Rattle.std.specs.Cmp.Lexicographic.{pointwise}
use Rattle.std.specs.Cmp.Rules.{signed_items}
use Rattle.std.specs.List.{Contains, list_any}
use Rattle.std.specs.List.Sorted.{IsPermutation}
use Rattle.std.specs.Ordering.{int_eq}
use Rattle.rstar_base.specs.PointElements.{point_distances}
use Rattle.rstar_base.specs.laws.PointLemmas.{and_parts}
use Rattle.rstar.specs.Points.{table}
use Rattle.rstar.specs.Segments.{coordinate}
use Rattle.rstar_uses.proofs.Lists.{there-if}

-- how far a vehicle waits from a place
abbrev pub far : List ℤ → List ℤ × ℕ → ℕ
far place v = (point_distances (pos 9223372036854775807) 2 coordinate).distance_2 v.0 (table 2 (coordinate place))

-- what `==` answers
abbrev pub same : List ℤ × ℕ → List ℤ × ℕ → Bool
same a b = pointwise int_eq a.0 b.0 && a.1 == b.1

-- equal ones are one
pub same-one : (a b : List ℤ × ℕ) → same a b ≡ true → a ≡ b
same-one a b e =
    let parts = and_parts (pointwise int_eq a.0 b.0) (a.1 == b.1) e in
    ap₂ (λ (p : List ℤ) (n : ℕ). (p, n)) ((signed_items a.0 b.0).0 parts.0) (eqb-true a.1 b.1 parts.1)

pub same-itself : (a : List ℤ × ℕ) → same a a ≡ true
same-itself a = ap₂ (λ (x y : Bool). x && y) ((signed_items a.0 a.0).1 refl) (eq-eqb a.1 a.1 refl)

-- xs is what is inside, and old the value that it shows: whether one was there, and that it stands at another place
pub was-there : (a b : List ℤ × ℕ) (xs old : List (List ℤ × ℕ)) (there : Bool) → b ≡ a → xs ≡ old → there ≡ list_any (λ t. same t b) xs → IsTrue there ↔ Contains old a
was-there a b xs old there is shown e =
    subst (λ (x : List ℤ × ℕ). IsTrue there ↔ Contains old x) is
    (subst (λ (l : List (List ℤ × ℕ)). IsTrue there ↔ Contains l b) shown (subst (λ (r : Bool). IsTrue r ↔ Contains xs b) (sym e) (there-if same same-one same-itself xs b)))

pub has-moved : (a b to at : List ℤ × ℕ) (xs old new : List (List ℤ × ℕ)) → b ≡ a → at ≡ to → xs ≡ old → (t : List ℤ × ℕ) × (same t b ≡ true) × IsPermutation (at ∷ xs) (t ∷ new) → IsPermutation (to ∷ old) (a ∷ new)
has-moved a b to at xs old new is goes shown taken =
    let before = subst (λ (u : List ℤ × ℕ). IsPermutation (at ∷ xs) (u ∷ new)) (same-one taken.0 b taken.1 ∙ is) taken.2 in
    subst (λ (u : List ℤ × ℕ). IsPermutation (u ∷ old) (a ∷ new)) goes (subst (λ (l : List (List ℤ × ℕ)). IsPermutation (at ∷ l) (a ∷ new)) shown before)
