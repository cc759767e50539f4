-- Equal rectangles with numbers.
use Rattle.std.proofs.Common.{◌≡◌, ◌&&◌, ◌==◌, ℕ, ℤ, Bool, true, List, refl, ap₂, eqb-true, eq-eqb}
use Rattle.std.specs.Cmp.Lexicographic.{pointwise}
use Rattle.std.specs.Cmp.Rules.{signed_items}
use Rattle.std.specs.Ordering.{int_eq}
use Rattle.rstar_base.specs.declared.primitives.Rectangle.{Rectangle}
use Rattle.rstar_base.specs.laws.PointLemmas.{and_parts}
use Rattle.rstar_uses.specs.Numbered.{Numbered}

-- what `==` answers
abbrev pub same : Numbered → Numbered → Bool
same a b = (pointwise int_eq a.0.lower b.0.lower && pointwise int_eq a.0.upper b.0.upper) && a.1 == b.1

rectangle_of : List ℤ → List ℤ → Rectangle (List ℤ)
rectangle_of l u = record { lower = l; upper = u }

-- equal ones are one
pub same-one : (a b : Numbered) → same a b ≡ true → a ≡ b
unfolding rectangle_of
same-one a b e =
    let parts = and_parts (pointwise int_eq a.0.lower b.0.lower && pointwise int_eq a.0.upper b.0.upper) (a.1 == b.1) e in
    let corners = and_parts (pointwise int_eq a.0.lower b.0.lower) (pointwise int_eq a.0.upper b.0.upper) parts.0 in
    let lower = (signed_items a.0.lower b.0.lower).0 corners.0 in
    let upper = (signed_items a.0.upper b.0.upper).0 corners.1 in
    ap₂ (λ (r : Rectangle (List ℤ)) (n : ℕ). (r, n)) (ap₂ rectangle_of lower upper) (eqb-true a.1 b.1 parts.1)

pub same-itself : (a : Numbered) → same a a ≡ true
same-itself a =
    let lower = (signed_items a.0.lower a.0.lower).1 refl in
    let upper = (signed_items a.0.upper a.0.upper).1 refl in
    ap₂ (λ (x y : Bool). x && y) (ap₂ (λ (x y : Bool). x && y) lower upper) (eq-eqb a.1 a.1 refl)
