-- Equal rectangles with IDs.
use Rattle.std.proofs.Common.{◌≡◌, ◌∙◌, ◌&&◌, ◌==◌, ℕ, ℤ, Bool, true, false, List, refl, sym, ap, ap₂, eqb-true, eq-eqb}
use Rattle.std.specs.Cmp.Lexicographic.{pointwise}
use Rattle.std.specs.Cmp.Rules.{signed_items}
use Rattle.std.specs.List.{Contains, list_any}
use Rattle.std.proofs.lemmas.List.Folds.{list_any_at}
use Rattle.std.proofs.lemmas.Map.Views.{Contains-from_any}
use Rattle.std.specs.Ordering.{int_eq}
use Rattle.std.proofs.lemmas.List.Elements.{All-contains, All-from_recursion}
use Rattle.rstar_base.specs.declared.primitives.Rectangle.{Rectangle}
use Rattle.rstar_base.specs.laws.PointLemmas.{and_parts}
use Rattle.rstar.specs.Lists.{NoneSelected}
use Rattle.rstar_c.specs.Items.{Item, rectangle}

-- what `==` answers
abbrev pub same : Item → Item → Bool
same a b = (pointwise int_eq a.0.lower b.0.lower && pointwise int_eq a.0.upper b.0.upper) && a.1 == b.1

-- equal ones are one
pub same-one : (a b : Item) → same a b ≡ true → a ≡ b
same-one a b e =
    let parts = and_parts (pointwise int_eq a.0.lower b.0.lower && pointwise int_eq a.0.upper b.0.upper) (a.1 == b.1) e in
    let corners = and_parts (pointwise int_eq a.0.lower b.0.lower) (pointwise int_eq a.0.upper b.0.upper) parts.0 in
    let lower = (signed_items a.0.lower b.0.lower).0 corners.0 in
    let upper = (signed_items a.0.upper b.0.upper).0 corners.1 in
    ap₂ (λ (r : Rectangle (List ℤ)) (n : ℕ). (r, n)) (ap₂ rectangle lower upper) (eqb-true a.1 b.1 parts.1)

pub same-itself : (a : Item) → same a a ≡ true
same-itself a =
    let lower = (signed_items a.0.lower a.0.lower).1 refl in
    let upper = (signed_items a.0.upper a.0.upper).1 refl in
    ap₂ (λ (x y : Bool). x && y) (ap₂ (λ (x y : Bool). x && y) lower upper) (eq-eqb a.1 a.1 refl)

-- one that is equal is in the list
pub any-there : (xs : List Item) (a : Item) → list_any (λ t. same t a) xs ≡ true → Contains xs a
any-there xs a e = Contains-from_any {eq = λ q t. same t q} (λ x y is. sym (same-one y x is)) a xs e

pub any-not : (xs : List Item) (a : Item) → list_any (λ t. same t a) xs ≡ false → Contains xs a → true ≡ false
any-not xs a e there = sym (list_any_at (λ t. same t a) xs there.0 a there.1 (ap (λ t. same t a) there.2 ∙ same-itself a)) ∙ e

-- none that is equal is in a list which has this one
pub none-there : (xs : List Item) (a : Item) → NoneSelected (λ t. same t a) xs → Contains xs a → true ≡ false
none-there xs a none there = sym (same-itself a) ∙ All-contains (λ t. same t a ≡ false) xs a (All-from_recursion (λ t. same t a ≡ false) xs none) there
