-- Lists written over a caller's lists.
use Rattle.std.specs.Prelude.{◌≡◌, ◌+◌, ℕ, zero, suc, List, [], ◌∷◌, map, min, length, Option}
use Rattle.std.specs.Iterator.{Drains}
use Rattle.rstar_base.specs.Counts.{usize_max}

-- a list over another, as far as that reaches
abbrev pub over : {X : Type 0} → List X → List X → List X
over [] ys = ys
over (x ∷ xs) [] = []
over (x ∷ xs) (y ∷ ys) = x ∷ over xs ys

-- the same, from a place on
abbrev pub put_from : {X : Type 0} → ℕ → List X → List X → List X
put_from zero xs ys = over xs ys
put_from (suc n) xs [] = []
put_from (suc n) xs (y ∷ ys) = y ∷ put_from n xs ys

-- where the answers to many questions begin in one list, and at last where they end; `count` is the number of each
abbrev pub offsets_of : {A : Type 0} → (A → ℕ) → ℕ → List A → List ℕ
offsets_of count from [] = min from usize_max ∷ []
offsets_of count from (a ∷ more) = min from usize_max ∷ offsets_of count (from + count a) more

-- these stand over a list, from a place on; and the place behind the last
pub record ArePut {X : Type 0} (xs : List X) (from : ℕ) (old new : List X) (next : ℕ) : Type 0 where
  pub counted : next ≡ min (from + length xs) usize_max
  pub written : new ≡ put_from from xs old

-- two things that are told of each item that an iterator gives, over two lists from their begin; and how many there are
pub record IsTwicePut {I A X Y : Type 0} (gives : I → Option A → I → Type 0) (told : A → X) (other : A → Y) (it : I)
    (first_old first_new : List X) (second_old second_new : List Y) (found : ℕ) : Type 0 where
  pub given_items : List A
  pub given : Drains gives it given_items
  pub counted : found ≡ min (length given_items) usize_max
  pub first : first_new ≡ over (map told given_items) first_old
  pub second : second_new ≡ over (map other given_items) second_old
