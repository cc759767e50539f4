-- Points, as lists of integers.
use Rattle.std.specs.Prelude.{◌==◌, if◌then◌else◌, ◌≡◌, ◌+◌, ◌&&◌, ℕ, ℤ, Bool, zero, suc, true, List, [], ◌∷◌, length, slice_index_or}
use Rattle.std.specs.List.{All}
use Rattle.rstar_base.specs.Scalars.{InRange}

-- the list of f 0, f 1, .. of length n
abbrev pub table : {A : Type 0} → ℕ → (ℕ → A) → List A
table zero f = []
table (suc n) f = f zero ∷ table n (λ i. f (suc i))

-- a point of n axes: each coordinate is between low and high
pub record IsPoint (low high : ℤ) (n : ℕ) (zs : List ℤ) : Type 0 where
  pub long : length zs ≡ n
  pub ranged : All (λ z. InRange low high z) zs

-- whether t holds for each number below n
abbrev pub all_below : ℕ → (ℕ → Bool) → Bool
all_below zero t = true
all_below (suc n) t = t zero && all_below n (λ i. t (suc i))

module _ {F S : Type 0} (step : F → ℕ → S → F → Type 0) where
  -- a function that may be called at i, i + 1, .., n times
  abbrev pub CallableFrom : (F → ℕ → Type 0) → F → ℕ → ℕ → Type 0
  CallableFrom pre f i zero = Unit {0}
  CallableFrom pre f i (suc n) = pre f i × ((y : S) (q : F) → step f i y q → CallableFrom pre q (i + 1) n)

  -- n calls of a function, at i, i + 1, .., returned the coordinates at these axes
  abbrev pub MadeFrom : (S → ℤ) → (ℕ → ℤ) → F → ℕ → ℕ → Type 0
  MadeFrom value coord f i zero = Unit {0}
  MadeFrom value coord f i (suc n) =
      (q : F) × (y : S) × step f i y q × (coord i ≡ value y) × MadeFrom value coord q (i + 1) n

  -- a function that may be called at 0, 1, .., n times
  pub record Callable (pre : F → ℕ → Type 0) (f : F) (n : ℕ) : Type 0 where
    pub run : CallableFrom pre f 0 n

  -- n calls of a function, at 0, 1, .., returned the coordinates at these axes
  pub record Made (value : S → ℤ) (coord : ℕ → ℤ) (f : F) (n : ℕ) : Type 0 where
    pub run : MadeFrom value coord f 0 n

-- the coordinates of a list of scalars
abbrev pub list_coord : {S : Type 0} → (S → ℤ) → S → List S → ℕ → ℤ
list_coord value d p i = value (slice_index_or p i d)

-- the item at place k after a write of s at place i, where x was
abbrev pub after_write : {S : Type 0} → ℕ → S → ℕ → S → S
after_write i s k x = if k == i then s else x
