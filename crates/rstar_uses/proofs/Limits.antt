-- Boxes nearer than a limit.
use Rattle.std.proofs.Common.{◌≡◌, ◌∙◌, ◌-ℤ◌, ℕ, ℤ, Bool, List, filter, ap, min, pos, int_le, int_lt, FitsSigned, to_z, of_z, to_z-of_z, arith}
use Rattle.std.specs.Int.{w64, saturate_signed}
use Rattle.std.proofs.lemmas.Int.{ints}

-- a clamped sum is at most the number below a limit where the sum is less than the limit
below : (sum : ℕ) (limit less : ℤ) → FitsSigned w64 limit → less ≡ saturate_signed w64 (limit -ℤ pos 1) → int_le (pos (min sum 9223372036854775807)) less ≡ int_lt (pos sum) limit
below sum limit less fits is = grind (arith, ints)

-- the same of numbers as they are passed
pub below-limit : (sum : ℕ) (limit less : ℤ) → FitsSigned w64 limit → FitsSigned w64 less → less ≡ saturate_signed w64 (to_z w64 (of_z w64 limit) -ℤ pos 1)
    → int_le (pos (min sum 9223372036854775807)) (to_z w64 (of_z w64 less)) ≡ int_lt (pos sum) limit
below-limit sum limit less fits own is =
    ap (int_le (pos (min sum 9223372036854775807))) (to_z-of_z own) ∙ below sum limit less fits (is ∙ ap (λ z. saturate_signed w64 (z -ℤ pos 1)) (to_z-of_z fits))

-- filters by tests that agree
pub filter-by : {X : Type 0} (p q : X → Bool) (xs now : List X) → ((x : X) → p x ≡ q x) → xs ≡ now → filter p xs ≡ filter q now
filter-by p q xs now agree is = ap (λ test. filter test xs) (λ i x. agree x i) ∙ ap (filter q) is
