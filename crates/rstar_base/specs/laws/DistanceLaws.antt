-- How the distances of boxes change when boxes are merged.
use Rattle.std.specs.Prelude.{◌≡◌, ◌*◌, ◌≤◌, ◌≤ℤ◌, ◌-ℤ◌, ◌&&◌, ℕ, ℤ, true, false, min, max, zero, suc, List, [], ◌∷◌, length, int_le, int_lt, unsigned_abs}
use Rattle.std.proofs.Common.{refl, ap, arith, sym, subst, ◌∙◌, ◌⊎◌, inl, inr}
use Rattle.std.proofs.lemmas.Int.{ints}
use Rattle.rstar_base.specs.Boxes.{merge_axis, merge_boxes, is_empty_box, contains_box}
use Rattle.rstar_base.specs.laws.BoxLaws.{merge_axis-comm, merge-long}
use Rattle.rstar_base.specs.laws.Leasts.{least-lesser}
use Rattle.rstar_base.specs.Distances.{square_apart, nearest_on_axis, distance_sum, box_distance, near_face, far_face, far_sum, faces_at, least_below, box_min_max}

pub square_up : (m n : ℕ) → m ≤ n → m * m ≤ n * n
square_up m n h = grind arith

-- an interval is no farther than one inside it
axis-up : (x y : ℤ × ℤ) (q : ℤ) → (int_le x.0 y.0 && int_le y.1 x.1) ≡ true → int_lt y.1 y.0 ≡ false
    → square_apart q (nearest_on_axis x q) ≤ square_apart q (nearest_on_axis y q)
axis-up x y q h k = square_up _ _ (grind (arith, ints))

distance-up : (a b : List (ℤ × ℤ)) (p : List ℤ) → contains_box a b ≡ true → is_empty_box b ≡ false
    → distance_sum a p ≤ distance_sum b p
distance-up (x ∷ xs) (y ∷ ys) (q ∷ qs) h k = grind (arith, axis-up x y q, distance-up xs ys qs)
distance-up a b p h k = grind arith

pub box_distance-up : (high : ℤ) (a b : List (ℤ × ℤ)) (p : List ℤ) → contains_box a b ≡ true → is_empty_box b ≡ false
    → box_distance high a p ≤ box_distance high b p
box_distance-up high a b p c e = omega (arith, distance-up a b p c e)

near_merge : (x y : ℤ × ℤ) (q : ℤ) → min (near_face x q) (near_face y q) ≤ near_face (merge_axis x y) q
near_merge x y q = grind (arith, ints)

-- a number between two others is no farther than the farther of them
between_ends : (m z n q : ℤ) → m ≤ℤ z → z ≤ℤ n
    → (unsigned_abs (z -ℤ q) ≤ unsigned_abs (m -ℤ q)) ⊎ (unsigned_abs (z -ℤ q) ≤ unsigned_abs (n -ℤ q))
between_ends m z n q h k = grind (arith, ints)

square_between : (m z n q : ℤ) → m ≤ℤ z → z ≤ℤ n → square_apart q z ≤ max (square_apart q m) (square_apart q n)
square_between m z n q h k = elim (between_ends m z n q h k) [
  | inl a ↦ omega (arith, square_up _ _ a)
  | inr b ↦ omega (arith, square_up _ _ b)
]

far_left : (x y : ℤ × ℤ) (q : ℤ) → int_lt x.1 x.0 ≡ false → far_face x q ≤ far_face (merge_axis x y) q
far_left x y q h =
    let m = merge_axis x y in
    omega (
      arith,
      square_between m.0 x.0 m.1 q (grind (arith, ints)) (grind (arith, ints)),
      square_between m.0 x.1 m.1 q (grind (arith, ints)) (grind (arith, ints)),
    )

far_right : (x y : ℤ × ℤ) (q : ℤ) → int_lt y.1 y.0 ≡ false → far_face y q ≤ far_face (merge_axis x y) q
far_right x y q h = subst (λ m. far_face y q ≤ far_face m q) (merge_axis-comm y x) (far_left y x q h)

far_sum-merge : (a b : List (ℤ × ℤ)) (p : List ℤ) → length a ≡ length b → is_empty_box a ≡ false
    → is_empty_box b ≡ false
    → (far_sum a p ≤ far_sum (merge_boxes a b) p) × (far_sum b p ≤ far_sum (merge_boxes a b) p)
far_sum-merge (x ∷ xs) (y ∷ ys) (q ∷ qs) l h k =
    grind (arith, far_left x y q, far_right x y q, far_sum-merge xs ys qs (omega arith))
far_sum-merge [] (y ∷ ys) p l h k = absurd (omega arith)
far_sum-merge a b p l h k = grind arith

faces-merge : (k : ℕ) (a b : List (ℤ × ℤ)) (p : List ℤ) → length a ≡ length b → is_empty_box a ≡ false
    → is_empty_box b ≡ false
    → min (faces_at k a p) (faces_at k b p) ≤ faces_at k (merge_boxes a b) p
faces-merge zero (x ∷ xs) (y ∷ ys) (q ∷ qs) l h m =
    grind (arith, near_merge x y q, far_sum-merge xs ys qs (omega arith))
faces-merge (suc k) (x ∷ xs) (y ∷ ys) (q ∷ qs) l h m =
    grind (arith, far_left x y q, far_right x y q, faces-merge k xs ys qs (omega arith))
faces-merge k a b p l h m = grind arith

pub box_min_max-merge : (high : ℤ) (a b : List (ℤ × ℤ)) (p : List ℤ) → length a ≡ length b → is_empty_box a ≡ false
    → is_empty_box b ≡ false
    → min (box_min_max high a p) (box_min_max high b p) ≤ box_min_max high (merge_boxes a b) p
box_min_max-merge high (x ∷ xs) (y ∷ ys) p l h k =
    let a = x ∷ xs in
    let b = y ∷ ys in
    let top = unsigned_abs high in
    let m = merge-long (length a) a b refl (sym l) in
    let f = ap (λ n. least_below top n (λ i. faces_at i a p)) m in
    let g = ap (λ n. least_below top n (λ i. faces_at i b p)) (m ∙ l) in
    let r = least-lesser top (length (merge_boxes a b)) (λ i. faces_at i a p) (λ i. faces_at i b p)
    (λ i. faces_at i (merge_boxes a b) p) (λ i. faces-merge i a b p l h k) in
    omega (arith, f, g, r)
box_min_max-merge high a b p l h k = grind arith
