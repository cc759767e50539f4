-- Lemmas on tuples as lists: what a write leaves, which numbers they have, and where two are equal.
use Rattle.std.specs.Prelude.{◌≡◌, ◌+◌, ◌<◌, ◌==◌, ◌&&◌, ◌↔◌, if◌then◌else◌, ℕ, ℤ, Bool, true, zero, suc, List, [], ◌∷◌, IsTrue, length, map, pos, slice_index_or}
use Rattle.std.proofs.Common.{refl, arith}
use Rattle.std.proofs.Math.Bool.{and_assoc}
use Rattle.std.specs.List.{All}
use Rattle.rstar_base.specs.Scalars.{InRange}
use Rattle.rstar_base.specs.Points.{table, list_coord, after_write, IsPoint}
use Rattle.rstar_base.specs.laws.PointLemmas.{and_parts, and_both}

-- what a write of s at place i leaves of a list whose first place is k
abbrev pub all_after_write : {S : Type 0} → ℕ → S → ℕ → List S → List S
all_after_write i s k [] = []
all_after_write i s k (x ∷ xs) = after_write i s k x ∷ all_after_write i s (k + 1) xs

value_of_choice : {S : Type 0} (value : S → ℤ) (b : Bool) (s x : S)
    → value (if b then s else x) ≡ (if b then value s else value x)
value_of_choice value b s x = grind arith

write-from : {S : Type 0} (value : S → ℤ) (d : S) (i : ℕ) (s : S) (k : ℕ) (xs : List S) (j m : ℕ) → m ≡ k + j
    → j < length xs
    → list_coord value d (all_after_write i s k xs) j ≡ (if m == i then value s else list_coord value d xs j)
write-from value d i s k (x ∷ xs) zero m e l =
    let e' : m ≡ k = omega arith in rw e' (value_of_choice value (k == i) s x)
write-from value d i s k (x ∷ xs) (suc j) m e l = write-from value d i s (k + 1) xs j m (omega arith) (omega arith)
write-from value d i s k [] j m e l = absurd (omega arith)

-- a write changes the number at its place and no other
pub tuple-with : {S : Type 0} (value : S → ℤ) (d : S) (xs : List S) (i : ℕ) (s : S) (j : ℕ) → j < length xs
    → list_coord value d (all_after_write i s 0 xs) j ≡ (if j == i then value s else list_coord value d xs j)
tuple-with value d xs i s j l = write-from value d i s 0 xs j j (omega arith) l

-- the tuple made of a list of numbers in the range has these numbers
module _ {S : Type 0} (value : S → ℤ) (of : ℤ → S) (low high : ℤ)
    (law : (z : ℤ) → InRange low high z → value (of z) ≡ z) where
  forth : (n : ℕ) (zs : List ℤ) → length zs ≡ n → All (λ z. InRange low high z) zs
      → table n (λ i. value (of (slice_index_or zs i (pos 0)))) ≡ zs
  forth zero [] h r = refl
  forth (suc n) (z ∷ zs) h r =
      cc (law z (r 0 z (omega arith)), forth n zs (omega arith) (λ k e l. r (suc k) e (omega arith)))
  forth n zs h r = absurd (omega arith)

  pub tuple-forth : (n : ℕ) (zs : List ℤ) → IsPoint low high n zs
      → table n (λ i. value (of (slice_index_or zs i (pos 0)))) ≡ zs
  tuple-forth n zs h = forth n zs h.long h.ranged

-- b holds, and the items of two lists are equal
abbrev pub all_equal : {S : Type 0} → (S → S → Bool) → Bool → List S → List S → Bool
all_equal eq b [] ys = b
all_equal eq b (x ∷ xs) [] = b
all_equal eq b (x ∷ xs) (y ∷ ys) = all_equal eq (b && eq x y) xs ys

module _ {S : Type 0} (eq : S → S → Bool) (value : S → ℤ)
    (law : (a b : S) → IsTrue (eq a b) ↔ (value a ≡ value b)) where
  equal-from : (b : Bool) (xs ys : List S) → length xs ≡ length ys
      → IsTrue (all_equal eq b xs ys) ↔ (IsTrue b × (map value xs ≡ map value ys))
  equal-from b [] [] h = ((λ t. (t, refl)), λ t. t.0)
  equal-from b (x ∷ xs) (y ∷ ys) h =
      let ih = equal-from (b && eq x y) xs ys (omega arith) in (
        (λ t. let p = ih.0 t in let q = and_parts b (eq x y) p.0 in (q.0, cc ((law x y).0 q.1, p.1))),
        λ t. ih.1 (and_both b (eq x y) t.0 ((law x y).1 (cc)), cc),
      )
  equal-from b xs ys h = absurd (omega arith)

  -- two tuples are equal exactly where their numbers are
  pub tuple-eq : (x y : S) (xs ys : List S) → length xs ≡ length ys
      → IsTrue (all_equal eq (eq x y) xs ys) ↔ (map value (x ∷ xs) ≡ map value (y ∷ ys))
  tuple-eq x y xs ys h =
      let r = equal-from true (x ∷ xs) (y ∷ ys) (omega arith) in ((λ t. (r.0 t).1), λ e. r.1 (refl, e))

  -- the same of a struct of three fields, whose derived test groups to the right
  pub triple-eq : (a b c x y z : S)
      → IsTrue (eq a x && (eq b y && eq c z))
      ↔ ((value a ∷ value b ∷ value c ∷ []) ≡ (value x ∷ value y ∷ value z ∷ []))
  triple-eq a b c x y z = rw (← and_assoc (eq a x) (eq b y) (eq c z)) (tuple-eq a x (b ∷ c ∷ []) (y ∷ z ∷ []) refl)
