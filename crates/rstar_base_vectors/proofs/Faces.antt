-- The nearest face of a box, in one pass over the axes.
use Rattle.std.proofs.Common.{◌≡◌, ◌≤◌, ◌+◌, ◌*◌, ◌∙◌, ◌-ℤ◌, ◌<◌, ℕ, ℤ, zero, suc, min, pos, length, unsigned_abs, refl, ap, ap₂, sym, arith}
use Rattle.std.specs.Int.{int_min, int_max}
use Rattle.std.proofs.lemmas.Int.{ints}
use Rattle.rstar_base.specs.Points.{table}
use Rattle.rstar_base.specs.Boxes.{merge_boxes}
use Rattle.rstar_base.specs.Distances.{square_apart, near_face, least_below}
use Rattle.rstar_base.specs.laws.Leasts.{least-most}
use Rattle.rstar_base_vectors.specs.Doors.{corner}
use Rattle.rstar_base_vectors.specs.Frames.{near_face_at, nearest_face}
use Rattle.rstar_base_vectors.specs.Stretches.{gap_between, nearer_end, held_square}

-- the square to the nearer face on axis j, where the corners have the coordinates c and d
abbrev pub face_on : (ℕ → ℤ) → (ℕ → ℤ) → (ℕ → ℤ) → ℕ → ℕ
face_on c d q j = near_face (int_min (c j) (d j), int_max (c j) (d j)) (q j)

least-more : (top n m : ℕ) (f : ℕ → ℕ) → m ≡ n + 1 → least_below top m f ≡ min (least_below top n f) (f n)
least-more top zero zero f e = absurd (omega arith)
least-more top zero (suc zero) f e = omega arith
least-more top zero (suc (suc m)) f e = absurd (omega arith)
least-more top (suc n) zero f e = absurd (omega arith)
least-more top (suc n) (suc m) f e = let r = least-more top n m (λ i. f (suc i)) (omega arith) in omega (arith, r)

gap-apart : (c q : ℤ) → gap_between c c q ≡ unsigned_abs (c -ℤ q)
gap-apart c q = grind (arith, ints)

square-least : (m n : ℕ) → min m n * min m n ≡ min (m * m) (n * n)
square-least m n = grind arith

ends-changed : (c d q : ℤ) → near_face (int_min c d, int_max c d) q ≡ min (square_apart q c) (square_apart q d)
ends-changed c d q = grind (arith, ints)

end-face : (top : ℕ) (c d q : ℤ) → held_square top (nearer_end c d q) ≡ min (near_face (int_min c d, int_max c d) q) top
end-face top c d q =
    ap₂ (λ a b. held_square top (min a b)) (gap-apart c q) (gap-apart d q)
    ∙ ap (λ s. min s top) (square-least (unsigned_abs (c -ℤ q)) (unsigned_abs (d -ℤ q)))
    ∙ ap (λ s. min s top) (sym (ends-changed c d q))

least-two : (x y r : ℤ) (l m g top : ℕ) → x ≡ pos l → y ≡ pos (min g top) → r ≡ int_min x y → l ≤ top → m ≡ min l g → r ≡ pos m
least-two x y r l m g top h k s t w = grind (arith, ints)

-- one axis more
pub face-more : (x y r : ℤ) (top n m : ℕ) (c d q : ℕ → ℤ) → m ≡ n + 1
    → x ≡ pos (least_below top n (face_on c d q)) → y ≡ pos (held_square top (nearer_end (c n) (d n) (q n))) → r ≡ int_min x y
    → r ≡ pos (least_below top m (face_on c d q))
face-more x y r top n m c d q e h k s =
    least-two x y r (least_below top n (face_on c d q)) (least_below top m (face_on c d q)) (face_on c d q n) top
    h (k ∙ ap pos (end-face top (c n) (d n) (q n))) s (least-most top n (face_on c d q)) (least-more top n m (face_on c d q) e)

faces-least : (top n : ℕ) (c d q : ℕ → ℤ) → least_below top n (face_on c d q)
    ≡ least_below top (length (merge_boxes (corner n c) (corner n d))) (λ k. near_face_at k (merge_boxes (corner n c) (corner n d)) (table n q))
faces-least top zero c d q = refl
faces-least top (suc n) c d q =
    ap (λ w. min (face_on c d q zero) w) (faces-least top n (λ i. c (suc i)) (λ i. d (suc i)) (λ i. q (suc i)))

pub all-faces : (high : ℤ) (n : ℕ) (c d q : ℕ → ℤ) → 0 < n
    → least_below (unsigned_abs high) n (face_on c d q) ≡ nearest_face high (merge_boxes (corner n c) (corner n d)) (table n q)
all-faces high zero c d q h = absurd (omega arith)
all-faces high (suc n) c d q h = faces-least (unsigned_abs high) (suc n) c d q
