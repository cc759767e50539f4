-- Lemmas on points: the calls of `generate`, tests on every axis, arrays, tables.
use Rattle.std.specs.Prelude.{◌==◌, pos, slice_set, if◌then◌else◌, ◌≡◌, ◌+◌, ◌<◌, ◌≤◌, ◌&&◌, ◌↔◌, ℕ, ℤ, Bool, zero, suc, true, false, List, [], ◌∷◌, Some, length, slice_index_or, IsTrue, map}
use Rattle.std.specs.Array.{index_steps, IsFromFnResultFrom}
use Rattle.std.specs.Iterator.{CallableAtEachTurn, Yields}
use Rattle.std.specs.List.{FoldsTo, All}
use Rattle.std.proofs.Common.{refl, ap, arith, subst, sym, ◌∙◌, inl, inr}
use Rattle.std.proofs.lemmas.List.{length-map, get_or-set_other}
use Rattle.std.proofs.lemmas.Grind.{get_or-set_at}
use Rattle.std.proofs.lemmas.Bool.Decides.{eqb_tells}
use Rattle.std.proofs.Math.Nat.{eq-or-lt_of_le}
use Rattle.rstar_base.specs.Scalars.{InRange}
use Rattle.rstar_base.specs.Points.{table, all_below, CallableFrom, MadeFrom, Callable, Made, list_coord}
use lib.Pointwise.{pointwise}
use denote.Param.Members.{Mut, Called}

module _ {F S : Type 0} (step : F → ℕ → S → F → Type 0) where
  -- `from_fn` may be called where n calls may be made
  callable-turn : (pre : F → ℕ → Type 0) (all : ℕ) (xs : List ℕ) (i n : ℕ) (p q : F) (t x u : ℕ) → i + n ≡ all
      → CallableFrom step pre p i n → Yields (index_steps all) i xs t → FoldsTo (λ p x q. (y : S) × step p x y q) p xs q
      → index_steps all t (Some x) u → pre q x
  callable-turn pre all [] i zero p q t x u e c y f s = absurd (omega (arith))
  callable-turn pre all [] i (suc n) p q t x u e c y f s =
      let a : i ≡ x = y ∙ sym s.1 in
      let P : F → ℕ → Type 0 = pre in
      subst (λ (k : ℕ). P q k) a (subst (λ (r : F). P r i) f c.0)
  callable-turn pre all (z ∷ zs) i zero p q t x u e c y f s = absurd (let l : i < all = y.1.0 in omega arith)
  callable-turn pre all (z ∷ zs) i (suc n) p q t x u e c y f s =
      let at : z ≡ i = y.1.1 in
      let next : y.0 ≡ i + 1 = y.1.2 in
      let made : step p i f.1.0 f.0 = subst (λ (k : ℕ). step p k f.1.0 f.0) at f.1.1 in
      callable-turn pre all zs (i + 1) n f.0 q t x u (omega arith) (c.1 f.1.0 f.0 made)
      (subst (λ (k : ℕ). Yields (index_steps all) k zs t) next y.2) f.2 s

  pub callable_each_turn : (pre : F → ℕ → Type 0) (n : ℕ) (f : F) → CallableFrom step pre f 0 n
      → CallableAtEachTurn (index_steps n) (λ p x q. (y : S) × step p x y q) pre 0 f
  callable_each_turn pre n f c = record {
    at = λ xs t q x u y g s. callable-turn pre n xs 0 n f q t x u (omega arith) c y g s;
  }

  -- where each call may be made, and none changes the closure
  pub callable_always : (pre : F → ℕ → Type 0) (f : F) (all i n : ℕ) → i + n ≡ all
      → ((k : ℕ) → k < all → pre f k) → ((k : ℕ) (y : S) (q : F) → k < all → step f k y q → q ≡ f)
      → CallableFrom step pre f i n
  callable_always pre f all i zero e h k = tt
  callable_always pre f all i (suc n) e h k = (
    h i (omega arith),
    λ y q s. subst (λ (r : F). CallableFrom step pre r (i + 1) n) (sym (k i y q (omega arith) s))
        (callable_always pre f all (i + 1) n (omega arith) h k),
  )

  pub callable : (pre : F → ℕ → Type 0) (f : F) (n : ℕ) → ((k : ℕ) → k < n → pre f k)
      → ((k : ℕ) (y : S) (q : F) → k < n → step f k y q → q ≡ f) → Callable step pre f n
  callable pre f n h k = record { run = callable_always pre f n 0 n (omega arith) h k }

  -- where each call gives a value with Q, and none changes the closure
  made_all : (value : S → ℤ) (coord : ℕ → ℤ) (Q : ℕ → ℤ → Type 0) (f : F) (all i n : ℕ) → i + n ≡ all
      → ((k : ℕ) (y : S) (q : F) → k < all → step f k y q → Q k (value y) × (q ≡ f))
      → MadeFrom step value coord f i n → (k : ℕ) → i ≤ k → k < all → Q k (coord k)
  made_all value coord Q f all i zero e h m k l u = absurd (omega arith)
  made_all value coord Q f all i (suc n) e h m k l u =
      let s = h i m.1 m.0 (omega arith) m.2 in
      elim (eq-or-lt_of_le l) [
        | inl e' ↦ subst (λ (j : ℕ). Q j (coord j)) e' (subst (λ (z : ℤ). Q i z) (sym m.3) s.0)
        | inr l' ↦ made_all value coord Q m.0 all (i + 1) n (omega arith)
            (λ k y q b t. let r = h k y q b (subst (λ (w : F). step w k y q) s.1 t) in (r.0, r.1 ∙ sym s.1))
            m.4 k (omega arith) u
      ]

  pub made_holds : (value : S → ℤ) (coord : ℕ → ℤ) (Q : ℕ → ℤ → Type 0) (f : F) (n : ℕ) → Made step value coord f n
      → ((k : ℕ) (y : S) (q : F) → k < n → step f k y q → Q k (value y) × (q ≡ f))
      → (k : ℕ) → k < n → Q k (coord k)
  made_holds value coord Q f n m h k l = made_all value coord Q f n 0 n (omega arith) h m.run k (omega arith) l

pub and_parts : (a b : Bool) → IsTrue (a && b) → IsTrue a × IsTrue b
and_parts true b h = (refl, h)
and_parts false b h = cc

pub and_both : (a b : Bool) → IsTrue a → IsTrue b → IsTrue (a && b)
and_both true b h k = k
and_both false b h k = cc

pub all_below-each : (n : ℕ) (t : ℕ → Bool) (k : ℕ) → k < n → IsTrue (all_below n t) → IsTrue (t k)
all_below-each (suc n) t zero l h = (and_parts _ _ h).0
all_below-each (suc n) t (suc k) l h = all_below-each n (λ i. t (suc i)) k (omega arith) (and_parts _ _ h).1
all_below-each n t k l h = absurd (omega arith)

-- where t holds of each number below n, and where it fails at one
pub all_below-true : (n : ℕ) (t : ℕ → Bool) → ((k : ℕ) → k < n → true ≡ t k) → true ≡ all_below n t
all_below-true zero t h = refl
all_below-true (suc n) t h =
    rw (← h zero (omega arith)) (all_below-true n (λ i. t (suc i)) (λ k l. h (suc k) (omega arith)))

pub and_left : (a b : Bool) → false ≡ a → false ≡ (a && b)
and_left true b h = cc
and_left false b h = refl

pub and_right : (a b : Bool) → false ≡ b → false ≡ (a && b)
and_right true b h = h
and_right false b h = refl

pub all_below-false : (n k : ℕ) (t : ℕ → Bool) → k < n → false ≡ t k → false ≡ all_below n t
all_below-false (suc n) zero t l h = and_left _ _ h
all_below-false (suc n) (suc k) t l h = and_right _ _ (all_below-false n k (λ i. t (suc i)) (omega arith) h)
all_below-false n k t l h = absurd (omega arith)

-- what `from_fn` says of the array that it made
pub made_from : {F S : Type 0} (g : Mut F (ℕ × Unit {0}) S) (value : S → ℤ) (z : S) (whole : List S) (f : F) (i n : ℕ)
    → IsFromFnResultFrom g f whole i n
    → MadeFrom (λ p k y q. Called g p (k, tt) y q) value (λ k. value (slice_index_or whole k z)) f i n
made_from g value z whole f i zero m = tt
made_from g value z whole f i (suc n) m =
    (m.0, m.1, m.3, ap value (m.2.1 z), made_from g value z whole m.0 (i + 1) n m.4)

pub array-with : {S : Type 0} (value : S → ℤ) (d : S) (p : List S) (i : ℕ) (s : S) (j : ℕ) → i < length p
    → list_coord value d (slice_set p i s) j ≡ (if j == i then value s else list_coord value d p j)
array-with value d p i s j l =
    elim (eqb_tells j i) [
      | inl e ↦ rw e.0 (ap value (get_or-set_at p i j s d e.1 l))
      | inr e ↦ rw e.0 (ap value (get_or-set_other p i j s d e.1))
    ]

module _ {S : Type 0} (eq : S → S → Bool) (value : S → ℤ)
    (law : (a b : S) → IsTrue (eq a b) ↔ (value a ≡ value b)) where
  -- with no word on the lengths
  pub array-same : (z : S) (n : ℕ) (xs ys : List S) → IsTrue (pointwise eq xs ys)
      → table n (list_coord value z xs) ≡ table n (list_coord value z ys)
  array-same z zero xs ys e = refl
  array-same z (suc n) [] [] e = refl
  array-same z (suc n) (x ∷ xs) (y ∷ ys) e =
      let p = and_parts (eq x y) (pointwise eq xs ys) e in cc ((law x y).0 p.0, array-same z n xs ys p.1)
  array-same z n xs ys e = cc

  same-array : (z : S) (n : ℕ) (xs ys : List S) → length xs ≡ n → length ys ≡ n
      → table n (list_coord value z xs) ≡ table n (list_coord value z ys) → IsTrue (pointwise eq xs ys)
  same-array z zero [] [] h k e = refl
  same-array z (suc n) (x ∷ xs) (y ∷ ys) h k e =
      and_both _ _ ((law x y).1 (cc)) (same-array z n xs ys (omega arith) (omega arith) (cc))
  same-array z n xs ys h k e = absurd (omega arith)

  pub array-eq : (z : S) (n : ℕ) (xs ys : List S) → length xs ≡ n → length ys ≡ n
      → IsTrue (pointwise eq xs ys) ↔ (table n (list_coord value z xs) ≡ table n (list_coord value z ys))
  array-eq z n xs ys h k = (array-same z n xs ys, same-array z n xs ys h k)

module _ {S : Type 0} (value : S → ℤ) (of : ℤ → S) (law : (x : S) → of (value x) ≡ x) where
  pub array-back : (z : S) (n : ℕ) (xs : List S) → length xs ≡ n → map of (table n (list_coord value z xs)) ≡ xs
  array-back z zero [] h = refl
  array-back z (suc n) (x ∷ xs) h = cc (law x, array-back z n xs (omega arith))
  array-back z n xs h = absurd (omega arith)

module _ {S : Type 0} (value : S → ℤ) (of : ℤ → S) (low high : ℤ)
    (law : (z : ℤ) → InRange low high z → value (of z) ≡ z) where
  pub array-forth : (d : S) (n : ℕ) (zs : List ℤ) → length zs ≡ n → All (λ z. InRange low high z) zs
      → table n (list_coord value d (map of zs)) ≡ zs
  array-forth d zero [] h r = refl
  array-forth d (suc n) (z ∷ zs) h r =
      cc (law z (r 0 z (omega arith)), array-forth d n zs (omega arith) (λ k e l. r (suc k) e (omega arith)))
  array-forth d n zs h r = absurd (omega arith)

pub table-long : {A : Type 0} (n : ℕ) (f : ℕ → A) → length (table n f) ≡ n
table-long zero f = refl
table-long (suc n) f = omega (arith, table-long n (λ i. f (suc i)))

pub array-long : {S : Type 0} (of : ℤ → S) (f : ℕ → ℤ) (n : ℕ) (xs : List S) → map of (table n f) ≡ xs → length xs ≡ n
array-long of f n xs e = sym (ap length e) ∙ length-map (table n f) of ∙ table-long n f

-- the first and the second parts of a table of pairs
pub table-firsts : (n : ℕ) (f g : ℕ → ℤ) → map (λ (x : ℤ × ℤ). x.0) (table n (λ i. (f i, g i))) ≡ table n f
table-firsts zero f g = refl
table-firsts (suc n) f g = simp (table-firsts n)

pub table-seconds : (n : ℕ) (f g : ℕ → ℤ) → map (λ (x : ℤ × ℤ). x.1) (table n (λ i. (f i, g i))) ≡ table n g
table-seconds zero f g = refl
table-seconds (suc n) f g = simp (table-seconds n)

pub table-same : {A : Type 0} (n : ℕ) (f h : ℕ → A) → ((i : ℕ) → i < n → f i ≡ h i) → table n f ≡ table n h
table-same zero f h e = refl
table-same (suc n) f h e =
    cc (e zero (omega arith), table-same n (λ i. f (suc i)) (λ i. h (suc i)) (λ i l. e (suc i) (omega arith)))

pub table-get : {A : Type 0} (n : ℕ) (f : ℕ → A) (i : ℕ) (d : A) → i < n → slice_index_or (table n f) i d ≡ f i
table-get (suc n) f zero d l = refl
table-get (suc n) f (suc i) d l = table-get n (λ k. f (suc k)) i d (omega arith)
table-get n f i d l = absurd (omega arith)

-- equal tables are equal at each place
pub table-each : (n : ℕ) (f h : ℕ → ℤ) → table n f ≡ table n h → (i : ℕ) → i < n → f i ≡ h i
table-each n f h e i l =
    sym (table-get n f i (pos 0) l) ∙ ap (λ (t : List ℤ). slice_index_or t i (pos 0)) e ∙ table-get n h i (pos 0) l

pub all_below-same : (n : ℕ) (f h : ℕ → Bool) → ((i : ℕ) → i < n → f i ≡ h i) → all_below n f ≡ all_below n h
all_below-same zero f h e = refl
all_below-same (suc n) f h e =
    cc (e zero (omega arith), all_below-same n (λ i. f (suc i)) (λ i. h (suc i)) (λ i l. e (suc i) (omega arith)))
