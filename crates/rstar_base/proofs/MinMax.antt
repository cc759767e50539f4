-- The min-max distance in one pass over the axes.
use Rattle.std.proofs.Common.{◌≡◌, ◌<◌, ◌≤◌, ◌+◌, ℕ, ℤ, suc, zero, length, pos, min, max, unsigned_abs, refl, ap, ◌∙◌, arith}
use Rattle.std.specs.Int.{int_min, int_max}
use Rattle.std.proofs.lemmas.Int.{ints}
use Rattle.rstar_base.specs.Points.{table}
use Rattle.rstar_base.specs.Boxes.{between_corners}
use Rattle.rstar_base.specs.Sums.{sum_below}
use Rattle.rstar_base.specs.Distances.{near_face, far_face, far_sum, faces_at, least_below, box_min_max}
use Rattle.rstar_base.specs.laws.Leasts.{least-most, least-same}

-- the best after n more axes, where `sum` is that of the farther faces of the axes before
abbrev pub best_from : ℕ → ℕ → ℕ → (ℕ → ℕ) → (ℕ → ℕ) → ℕ
best_from best sum zero near far = best
best_from best sum (suc n) near far =
    best_from (min (best + far zero) (sum + near zero)) (sum + far zero) n (λ i. near (suc i)) (λ i. far (suc i))

pub best_from-more : (best sum n m : ℕ) (near far : ℕ → ℕ) → m ≡ n + 1
    → best_from best sum m near far ≡ min (best_from best sum n near far + far n) (sum + sum_below n far + near n)
best_from-more best sum zero (suc zero) near far e = omega arith
best_from-more best sum (suc n) (suc m) near far e =
    omega (arith, best_from-more (min (best + far zero) (sum + near zero)) (sum + far zero) n m (λ i. near (suc i)) (λ i. far (suc i)) (omega arith))
best_from-more best sum n m near far e = absurd (omega arith)

best_step : (best sum near far rest top tail all : ℕ) → all ≡ min (min (min (best + far) (sum + near) + rest) top) tail
    → all ≡ min (min (best + (far + rest)) top) (min (sum + (near + rest)) tail)
best_step best sum near far rest top tail all h = omega arith

best_all : (top best sum n : ℕ) (l u p : ℕ → ℤ)
    → min (best_from best sum n (λ i. near_face (l i, u i) (p i)) (λ i. far_face (l i, u i) (p i))) top
    ≡ min (min (best + far_sum (between_corners n l u) (table n p)) top)
    (least_below top (length (between_corners n l u)) (λ k. sum + faces_at k (between_corners n l u) (table n p)))
best_all top best sum zero l u p = omega arith
best_all top best sum (suc n) l u p =
    let b = between_corners n (λ i. l (suc i)) (λ i. u (suc i)) in
    let qs = table n (λ i. p (suc i)) in
    let far = far_face (l zero, u zero) (p zero) in
    best_step best sum (near_face (l zero, u zero) (p zero)) far _ top _ _
    (best_all top (min (best + far) (sum + near_face (l zero, u zero) (p zero))) (sum + far) n
    (λ i. l (suc i)) (λ i. u (suc i)) (λ i. p (suc i))
    ∙ ap (λ w. min (min (min (best + far) (sum + near_face (l zero, u zero) (p zero)) + far_sum b qs) top) w)
    (least-same top (length b) (length b) (λ k. sum + far + faces_at k b qs) (λ k. sum + (far + faces_at k b qs)) refl (λ k. omega arith)))

below_top : (top far a : ℕ) → a ≤ top → min (min (top + far) top) a ≡ a
below_top top far a h = omega arith

pub best_min_max : (high : ℤ) (n : ℕ) (l u p : ℕ → ℤ) → 0 < n
    → min (best_from (unsigned_abs high) 0 n (λ i. near_face (l i, u i) (p i)) (λ i. far_face (l i, u i) (p i))) (unsigned_abs high)
    ≡ box_min_max high (between_corners n l u) (table n p)
best_min_max high zero l u p h = absurd (omega arith)
best_min_max high (suc n) l u p h =
    let top = unsigned_abs high in
    let b = between_corners (suc n) l u in
    let qs = table (suc n) p in
    best_all top top 0 (suc n) l u p
    ∙ below_top top _ _ (least-most top (length b) (λ k. 0 + faces_at k b qs))
    ∙ least-same top (length b) (length b) (λ k. 0 + faces_at k b qs) (λ k. faces_at k b qs) refl (λ k. omega arith)

pub above_zero : (n : ℕ) → (n ≡ 0 → ⊥) → 0 < n
above_zero n h = omega arith

-- ---- clamped

pub least_clamped : (x y r : ℤ) (a b top : ℕ) → x ≡ pos (min a top) → y ≡ pos (min b top) → r ≡ int_min x y → r ≡ pos (min (min a b) top)
least_clamped x y r a b top h k e = grind (arith, ints)

pub greatest_clamped : (x y r : ℤ) (a b top : ℕ) → x ≡ pos (min a top) → y ≡ pos (min b top) → r ≡ int_max x y → r ≡ pos (min (max a b) top)
greatest_clamped x y r a b top h k e = grind (arith, ints)
