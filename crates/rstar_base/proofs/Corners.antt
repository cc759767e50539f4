-- Boxes between corners, axis by axis.
use Rattle.std.proofs.Common.{◌≡◌, ◌<◌, ℕ, ℤ, zero, suc, true, refl, IsTrue}
use Rattle.std.specs.Prelude.{int_le}
use Rattle.rstar_base.specs.Points.{table}
use Rattle.rstar_base.specs.Boxes.{between_corners, box_of_corners}
use Rattle.rstar_base.specs.laws.BoxLaws.{corners-same}
use Rattle.rstar_base.specs.Distances.{nearest_on_axis, nearest_point}

pub le_along : (a b x y : ℤ) → a ≡ x → b ≡ y → IsTrue (int_le x y) → int_le a b ≡ true
le_along a b x y h k l = rw (h, k) l

pub corners-nearest : (n : ℕ) (l u p : ℕ → ℤ) → table n (λ i. nearest_on_axis (l i, u i) (p i)) ≡ nearest_point (between_corners n l u) (table n p)
corners-nearest zero l u p = refl
corners-nearest (suc n) l u p = simp (corners-nearest n)

pub corners-hull : (n : ℕ) (p q p' q' : ℕ → ℤ) → ((i : ℕ) → i < n → p i ≡ p' i) → ((i : ℕ) → i < n → q i ≡ q' i) → box_of_corners n p q ≡ box_of_corners n p' q'
corners-hull n p q p' q' h k = corners-same n _ _ _ _ (λ i l. cc (h i l, k i l)) (λ i l. cc (h i l, k i l))
