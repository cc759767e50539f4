-- How far boxes lie apart, squared.
use Rattle.std.specs.Prelude.{◌≡◌, ◌↔◌, ◌+◌, ◌*◌, ◌≤◌, ℕ, ℤ, true, false, min, max, List, [], ◌∷◌, unsigned_abs}
use Rattle.rstar_base.specs.Measures.{extent}
use Rattle.rstar_base.specs.Envelopes.{Boxes}

-- how far two intervals lie apart: how far one begins above the end of the other, 0 where neither does
abbrev pub gap : ℤ × ℤ → ℤ × ℤ → ℕ
gap x y = max (extent (x.1, y.0)) (extent (y.1, x.0))

-- the squares of the gaps of all axes, added up
abbrev pub gap_sum : List (ℤ × ℤ) → List (ℤ × ℤ) → ℕ
gap_sum [] ys = 0
gap_sum (x ∷ xs) [] = 0
gap_sum (x ∷ xs) (y ∷ ys) = gap x y * gap x y + gap_sum xs ys

-- that sum, held at the greatest scalar
abbrev pub boxes_apart : ℤ → List (ℤ × ℤ) → List (ℤ × ℤ) → ℕ
boxes_apart high a b = min (gap_sum a b) (unsigned_abs high)

-- the laws of a distance of envelopes, over their values
pub record GapLaws {E : Type 0} (v : Boxes E) (apart : E → E → ℕ) : Type 0 where
  pub symmetric : (a b : E) → v.IsValue a → v.IsValue b → apart a b ≡ apart b a
  pub touching : (a b : E) → v.IsValue a → v.IsValue b → (apart a b ≡ 0) ↔ (v.intersects a b ≡ true)
  pub merge_nearer : (a b c : E) → v.IsValue a → v.IsValue b → v.IsValue c → v.is_empty a ≡ false
      → apart (v.merge a b) c ≤ apart a c
