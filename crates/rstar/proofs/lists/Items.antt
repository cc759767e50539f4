-- What holds of each item of a list, at an index and after a write, and of two lists place by place.
use Rattle.std.proofs.Common.{◌≡◌, ◌∙◌, ℕ, zero, suc, ◌+◌, ◌<◌, ◌≤◌, List, [], ◌∷◌, ◌++◌, length, get_or, set, take, ap, sym, subst, arith, ◌≢◌, refl, sum_by}
use Rattle.std.proofs.lemmas.List.{take_more, take_all}
use Rattle.std.proofs.lemmas.List.Sums.{sum_by-cons}
use Rattle.std.specs.List.{AllByRecursion, AllZip}
use Rattle.rstar_base.proofs.Lists.{all-append}

module _ {A : Type 0} (F : A → Type 0) where
  pub all_set : (xs : List A) (i : ℕ) (y : A) → AllByRecursion F xs → F y → AllByRecursion F (set xs i y)
  all_set [] i y h f = tt
  all_set (x ∷ xs) zero y h f = (f, h.1)
  all_set (x ∷ xs) (suc i) y h f = (h.0, all_set xs i y h.1 f)

  pub all_get : (xs : List A) (i : ℕ) (d : A) → i < length xs → AllByRecursion F xs → F (get_or xs i d)
  all_get [] i d below h = absurd (omega arith)
  all_get (x ∷ xs) zero d below h = h.0
  all_get (x ∷ xs) (suc i) d below h = all_get xs i d (omega arith) h.1

pub some_item : {A : Type 0} (xs : List A) → xs ≢ [] → 0 < length xs
some_item [] full = absurd (full refl)
some_item (x ∷ xs) full = omega arith

-- sums of equal numbers
pub sum_by-same : {A : Type 0} (f g : A → ℕ) (xs : List A) → AllByRecursion (λ x. f x ≡ g x) xs → sum_by f xs ≡ sum_by g xs
sum_by-same f g [] all = refl
sum_by-same f g (x ∷ xs) all = omega (arith, all.0, sum_by-same f g xs all.1, sum_by-cons f x xs, sum_by-cons g x xs)

-- what holds of the first items, and of the next, and of all
pub all_more : {A : Type 0} (P : A → Type 0) (xs : List A) (k : ℕ) (x : A) → k < length xs → x ≡ get_or xs k x → P x → AllByRecursion P (take k xs) → AllByRecursion P (take (k + 1) xs)
all_more P xs k x below is holds before =
    let more : take (k + 1) xs ≡ take k xs ++ x ∷ [] = take_more xs k x below ∙ ap (λ u. take k xs ++ u ∷ []) (sym is) in
    subst (AllByRecursion P) (sym more) (all-append P (take k xs) (x ∷ []) before (holds, tt))

pub all_whole : {A : Type 0} (P : A → Type 0) (xs : List A) (k : ℕ) → length xs ≤ k → AllByRecursion P (take k xs) → AllByRecursion P xs
all_whole P xs k ended = subst (AllByRecursion P) (take_all k xs ended)

pub AllZip-append : {A B : Type 0} (R : A → B → Type 0) (xs xs' : List A) (ys ys' : List B)
    → AllZip R xs ys → AllZip R xs' ys' → AllZip R (xs ++ xs') (ys ++ ys')
AllZip-append R [] xs' [] ys' z w = w
AllZip-append R [] xs' (y ∷ ys) ys' z w = absurd z
AllZip-append R (x ∷ xs) xs' [] ys' z w = absurd z
AllZip-append R (x ∷ xs) xs' (y ∷ ys) ys' z w = (z.0, AllZip-append R xs xs' ys ys' z.1 w)

-- the first items of a list, with the next one
pub next_item : {A : Type 0} (xs items : List A) (k : ℕ) (x : A) → items ≡ xs → k < length items → x ≡ get_or items k x → take (k + 1) xs ≡ take k xs ++ x ∷ []
next_item xs items k x same below is = subst (λ ys. take (k + 1) ys ≡ take k ys ++ x ∷ []) same (take_more items k x below ∙ ap (λ u. take k items ++ u ∷ []) (sym is))

-- one place more
pub zip_push : {A : Type 0} (R : A → A → Type 0) (xs items ys zs : List A) (k : ℕ) (x y : A) → items ≡ xs → AllZip R (take k xs) ys → k < length items → x ≡ get_or items k x → R x y → zs ≡ ys ++ y ∷ [] → AllZip R (take (k + 1) xs) zs
zip_push R xs items ys zs k x y same z below is one put = rw (put, next_item xs items k x same below is) (AllZip-append R (take k xs) (x ∷ []) ys (y ∷ []) z (one, tt))

-- what holds of each item holds of this one
pub item_has : {A : Type 0} (P : A → Type 0) (xs items : List A) (k : ℕ) (x : A) → items ≡ xs → k < length items → x ≡ get_or items k x → AllByRecursion P xs → P x
item_has P xs items k x same below is h = rw is (all_get P items k x below (subst (AllByRecursion P) (sym same) h))

-- two lists place by place, so far, and all of them
pub zip_whole : {A B : Type 0} (R : A → B → Type 0) (xs items : List A) (ys : List B) (k : ℕ) → items ≡ xs → length items ≤ k → AllZip R (take k xs) ys → AllZip R xs ys
zip_whole R xs items ys k same ended z = let all : length xs ≤ k = rw same at ended in subst (λ us. AllZip R us ys) (take_all k xs all) z

-- two lists place by place, from the end
pub zip_along : {A B : Type 0} (R : A → B → Type 0) (P : List A → List B → Type 0) → P [] [] → ((x : A) (y : B) (xs : List A) (ys : List B) → R x y → P xs ys → P (x ∷ xs) (y ∷ ys))
    → (xs : List A) (ys : List B) → AllZip R xs ys → P xs ys
zip_along R P none more [] [] z = none
zip_along R P none more [] (y ∷ ys) z = absurd z
zip_along R P none more (x ∷ xs) [] z = absurd z
zip_along R P none more (x ∷ xs) (y ∷ ys) z = more x y xs ys z.0 (zip_along R P none more xs ys z.1)
