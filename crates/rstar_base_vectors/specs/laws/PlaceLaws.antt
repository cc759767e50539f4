-- A place counts once, and equal places have equal envelopes.
use Rattle.std.specs.Prelude.{◌≡◌, ◌&&◌, ℕ, ℤ, Bool, true, false, IsTrue, List, nat_eq, int_le}
use Rattle.std.proofs.Common.{ap, arith}
use Rattle.std.proofs.lemmas.Int.{ints}
use Rattle.rstar_base.specs.Points.{table}
use Rattle.rstar_base.specs.Boxes.{between_corners, is_empty_box}
use Rattle.rstar_base.specs.laws.BoxLaws.{corners-upright}
use Rattle.rstar_base.specs.laws.EqualElements.{point_equal}
use Rattle.rstar_base.specs.laws.PointLemmas.{and_parts}

same-number : (x : ℤ) → int_le x x ≡ true
same-number x = grind (arith, ints)

-- the box of a point is not empty
pub one_point : (n : ℕ) (c : ℕ → ℤ) → is_empty_box (between_corners n c c) ≡ false
one_point n c = corners-upright n c c (λ i _. same-number (c i))

-- an envelope that counts once
abbrev once : List (ℤ × ℤ) → List (ℤ × ℤ) × ℕ
once b = (b, 1)

pub place_equal : {P : Type 0} (n : ℕ) (coord : P → ℕ → ℤ) (eq : P → P → Bool)
    → ((p q : P) → IsTrue (eq p q) → table n (coord p) ≡ table n (coord q))
    → (i j : ℕ) (a b : P) → IsTrue (nat_eq i j && eq a b)
    → once (between_corners n (coord a) (coord a)) ≡ once (between_corners n (coord b) (coord b))
place_equal n coord eq same i j a b e =
    ap once (point_equal n coord eq same a b (and_parts (nat_eq i j) (eq a b) e).1)
