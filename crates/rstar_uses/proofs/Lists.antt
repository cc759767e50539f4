-- Elements of lists, and filters of them.
use Rattle.std.proofs.Common.{◌≡◌, ◌∙◌, ◌+◌, ◌&&◌, ◌↔◌, if◌then◌else◌, ℕ, Bool, true, false, List, [], ◌∷◌, filter, fold, length, map, min, refl, sym, ap, ap₂, subst, arith, zero-add, IsTrue}
use Rattle.std.specs.List.{Contains, list_any, sum_by}
use Rattle.std.specs.List.Sorted.{IsPermutation}
use Rattle.std.proofs.lemmas.List.Elements.{All-contains, All-from_recursion, Contains-append_right}
use Rattle.std.proofs.lemmas.List.Folds.{Any-from_list_any, list_any-from_Any}
use Rattle.std.proofs.lemmas.List.Sorted.{IsPermutation-sym, Contains-permutation}
use Rattle.rstar_base.specs.Counts.{usize_max}
use Rattle.rstar.specs.Lists.{NoneSelected}
use Rattle.rstar_uses.specs.Numbered.{count_and_sum}

-- none that is selected is in a list which has one
pub none-there : {X : Type 0} (p : X → Bool) (xs : List X) (x : X) → NoneSelected p xs → Contains xs x → p x ≡ false
none-there p xs x none there = All-contains (λ t. p t ≡ false) xs x (All-from_recursion (λ t. p t ≡ false) xs none) there

-- one that is selected is still there beside another
pub still-there : {X : Type 0} (p : X → Bool) (xs ys : List X) (x : X) → list_any p xs ≡ true → IsPermutation (x ∷ xs) ys → NoneSelected p ys → true ≡ false
still-there p xs ys x any bag none =
    let found = Any-from_list_any p xs any in
    let there : Contains xs found.1 = (found.0, found.2, found.3) in
    sym found.4 ∙ none-there p ys found.1 none (Contains-permutation (x ∷ xs) ys found.1 bag (Contains-append_right (x ∷ []) xs found.1 there))

pub is-taken : {X : Type 0} (p : X → Bool) (xs ys : List X) (x : X) (taken : Bool) → list_any p xs ≡ true → IsPermutation (x ∷ xs) ys → (taken ≡ false → NoneSelected p ys) → taken ≡ true
is-taken p xs ys x true any bag none = refl
is-taken p xs ys x false any bag none = sym (still-there p xs ys x any bag (none refl))

-- whether one that equals another is there, where equal ones are one
pub there-if : {X : Type 0} (same : X → X → Bool) → ((a b : X) → same a b ≡ true → a ≡ b) → ((a : X) → same a a ≡ true) → (xs : List X) (a : X) → IsTrue (list_any (λ t. same t a) xs) ↔ Contains xs a
there-if {X} same one itself xs a = (
  λ any. let found = Any-from_list_any (λ t. same t a) xs any in
      subst (Contains xs) (one found.1 a found.4) (found.0, found.2, found.3),
  λ there. list_any-from_Any (λ t. same t a) xs (there.0, a, there.1, there.2, itself a),
)

-- what is taken out of a list was in it
pub taken-there : {X : Type 0} (x : X) (old new : List X) → IsPermutation old (x ∷ new) → Contains old x
taken-there x old new gone = Contains-permutation (x ∷ new) old x (IsPermutation-sym _ _ gone) (0, omega arith, refl)

-- a filter of a filter
pub filter-twice : {X : Type 0} (p q : X → Bool) (xs : List X) → filter q (filter p xs) ≡ filter (λ x. p x && q x) xs
filter-twice p q [] = refl
filter-twice {X} p q (x ∷ xs) = by (p x) (filter-twice p q xs)
  where
    by : (b : Bool) → filter q (filter p xs) ≡ filter (λ y. p y && q y) xs → filter q (if b then x ∷ filter p xs else filter p xs) ≡ (if b && q x then x ∷ filter (λ y. p y && q y) xs else filter (λ y. p y && q y) xs)
    by true e = again (q x)
      where
        again : (c : Bool) → (if c then x ∷ filter q (filter p xs) else filter q (filter p xs)) ≡ (if c then x ∷ filter (λ y. p y && q y) xs else filter (λ y. p y && q y) xs)
        again true = ap (λ (ys : List X). x ∷ ys) e
        again false = e
    by false e = e

-- what passes a test of what is seen of it, seen
pub filter-seen : {A B : Type 0} (seen : A → B) (p : B → Bool) (xs : List A) → map seen (filter (λ x. p (seen x)) xs) ≡ filter p (map seen xs)
filter-seen seen p [] = refl
filter-seen {A} {B} seen p (x ∷ xs) = by (p (seen x)) (filter-seen seen p xs)
  where
    by : (b : Bool) → map seen (filter (λ y. p (seen y)) xs) ≡ filter p (map seen xs) → map seen (if b then x ∷ filter (λ y. p (seen y)) xs else filter (λ y. p (seen y)) xs) ≡ (if b then seen x ∷ filter p (map seen xs) else filter p (map seen xs))
    by true e = ap (λ (ys : List B). seen x ∷ ys) e
    by false e = e

-- one more is counted, and its number added
abbrev pub one-more : {R : Type 0} → ℕ × ℕ → R × ℕ → ℕ × ℕ
one-more told r = (min (told.0 + 1) usize_max, min (told.1 + r.1) usize_max)

-- one that comes is told, and the others are still to come
pub one-told : {R : Type 0} (n s n' s' : ℕ) (r : R × ℕ) (old new : List (R × ℕ)) (all : ℕ × ℕ) → fold one-more (n, s) old ≡ all → old ≡ r ∷ new
    → n' ≡ min (n + 1) usize_max → s' ≡ min (s + r.1) usize_max → fold one-more (n', s') new ≡ all
one-told n s n' s' r old new all told came count sum = ap₂ (λ (k m : ℕ). fold one-more (k, m) new) count sum ∙ sym (ap (fold one-more (n, s)) came) ∙ told

-- at the end all are
told-from : {R : Type 0} (rs : List (R × ℕ)) (n s : ℕ) → fold one-more (min n usize_max, min s usize_max) rs ≡ (min (n + length rs) usize_max, min (fold (λ a r. a + r.1) s rs) usize_max)
told-from {R} [] n s = ap (λ (k : ℕ). (k, min s usize_max)) (omega arith)
told-from {R} (r ∷ rs) n s =
    let count : min (min n usize_max + 1) usize_max ≡ min (n + 1) usize_max = omega arith in
    let sum : min (min s usize_max + r.1) usize_max ≡ min (s + r.1) usize_max = omega arith in
    let longer : min ((n + 1) + length rs) usize_max ≡ min (n + length (r ∷ rs)) usize_max = omega arith in
    ap₂ (λ (k m : ℕ). fold one-more (k, m) rs) count sum ∙ told-from rs (n + 1) (s + r.1) ∙ ap (λ (k : ℕ). (k, min (fold (λ a r. a + r.1) (s + r.1) rs) usize_max)) longer

pub all-told : {R : Type 0} (n s : ℕ) (left all : List (R × ℕ)) → fold one-more (n, s) left ≡ fold one-more (0, 0) all → left ≡ [] → (n, s) ≡ count_and_sum all
all-told n s left all told none = sym (ap (fold one-more (n, s)) none) ∙ told ∙ told-from all 0 0 ∙ ap (λ (k : ℕ). (min k usize_max, min (sum_by (λ r. r.1) all) usize_max)) (zero-add (length all))
