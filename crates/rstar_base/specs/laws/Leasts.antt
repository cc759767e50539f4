-- The least of the first values of a function.
use Rattle.std.specs.Prelude.{◌≡◌, ◌≤◌, ℕ, zero, suc, min}
use Rattle.std.proofs.Common.{refl, arith}
use Rattle.rstar_base.specs.Distances.{least_below}

pub least-most : (top n : ℕ) (f : ℕ → ℕ) → least_below top n f ≤ top
least-most top zero f = omega arith
least-most top (suc n) f = omega (arith, least-most top n (λ i. f (suc i)))

-- what is not above any value is not above the least
pub least-above : (top m n : ℕ) (f : ℕ → ℕ) → ((k : ℕ) → m ≤ f k) → min m top ≤ least_below top n f
least-above top m zero f h = omega arith
least-above top m (suc n) f h = omega (arith, h zero, least-above top m n (λ i. f (suc i)) (λ k. h (suc k)))

-- equal values have one least
pub least-same : (top m n : ℕ) (f g : ℕ → ℕ) → m ≡ n → ((k : ℕ) → f k ≡ g k) → least_below top m f ≡ least_below top n g
least-same top zero zero f g e h = refl
least-same top (suc m) (suc n) f g e h =
    omega (arith, h zero, least-same top m n (λ i. f (suc i)) (λ i. g (suc i)) (omega arith) (λ k. h (suc k)))
least-same top m n f g e h = absurd (omega arith)

-- where each value of h is at least the lesser of those of f and g, so is the least
pub least-lesser : (top n : ℕ) (f g h : ℕ → ℕ) → ((k : ℕ) → min (f k) (g k) ≤ h k)
    → min (least_below top n f) (least_below top n g) ≤ least_below top n h
least-lesser top zero f g h l = omega arith
least-lesser top (suc n) f g h l =
    omega (arith, l zero, least-lesser top n (λ i. f (suc i)) (λ i. g (suc i)) (λ i. h (suc i)) (λ k. l (suc k)))
