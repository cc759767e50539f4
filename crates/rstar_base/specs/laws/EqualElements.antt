-- Equal points, rectangles and lines have equal boxes.
use Rattle.std.specs.Prelude.{◌≡◌, ◌<◌, ◌&&◌, IsTrue, ℕ, ℤ, Bool, int_le}
use Rattle.std.proofs.Common.{refl}
use Rattle.rstar_base.specs.Points.{table}
use Rattle.rstar_base.specs.laws.PointLemmas.{and_parts, table-same, table-each, all_below-same}
use Rattle.std.specs.Int.{int_min, int_max}
use Rattle.rstar_base.specs.Boxes.{between_corners, box_of_corners}
use Rattle.rstar_base.specs.Rectangles.{box_or_empty}

-- ---- what is made of the same two lists of coordinates

module _ (n : ℕ) (l u k v : ℕ → ℤ) (e : table n l ≡ table n k) (f : table n u ≡ table n v) where
  each : {A : Type 0} (make : ℤ → ℤ → A) (i : ℕ) → i < n → make (l i) (u i) ≡ make (k i) (v i)
  each make i h = cc (table-each n l k e i h, table-each n u v f i h)

  between-same : between_corners n l u ≡ between_corners n k v
  between-same = table-same n _ _ (each (λ a b. (a, b)))

  box_or_empty-equal : (low high : ℤ) → box_or_empty low high n l u ≡ box_or_empty low high n k v
  box_or_empty-equal low high =
      rw (
        all_below-same n _ _ (each (λ a b. int_le high a && int_le b low)),
        table-same {A = ℤ × ℤ} n _ _ (each (λ a b. (a, int_max a b))),
      ) refl

  corners-same : box_of_corners n l u ≡ box_of_corners n k v
  corners-same = table-same n _ _ (each (λ a b. (int_min a b, int_max a b)))

-- ---- points, and what is made of two of them

module _ {P : Type 0} (n : ℕ) (coord : P → ℕ → ℤ) (eq : P → P → Bool)
    (same : (p q : P) → IsTrue (eq p q) → table n (coord p) ≡ table n (coord q)) where
  pub point_equal : (p q : P) → IsTrue (eq p q)
      → between_corners n (coord p) (coord p) ≡ between_corners n (coord q) (coord q)
  point_equal p q e = between-same n (coord p) (coord p) (coord q) (coord q) (same p q e) (same p q e)

  pub rectangle_equal : (low high : ℤ) (a b c d : P) → IsTrue (eq a c && eq b d)
      → box_or_empty low high n (coord a) (coord b) ≡ box_or_empty low high n (coord c) (coord d)
  rectangle_equal low high a b c d e =
      let p = and_parts (eq a c) (eq b d) e in
      box_or_empty-equal n (coord a) (coord b) (coord c) (coord d) (same a c p.0) (same b d p.1) low high

  pub line_equal : (a b c d : P) → IsTrue (eq a c && eq b d)
      → box_of_corners n (coord a) (coord b) ≡ box_of_corners n (coord c) (coord d)
  line_equal a b c d e =
      let p = and_parts (eq a c) (eq b d) e in
      corners-same n (coord a) (coord b) (coord c) (coord d) (same a c p.0) (same b d p.1)
