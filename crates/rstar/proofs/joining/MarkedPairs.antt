-- Items that are marked by the binary digits of a number.
use Rattle.std.proofs.Common.{◌≡◌, ℕ, zero, suc, ◌+◌, ◌-◌, ◌*◌, ◌/◌, ◌%◌, ◌^◌, ◌<◌, ◌≤◌, ◌==◌, min, Bool, true, false, if◌then◌else◌, List, [], ◌∷◌, ◌++◌, length, map, filter, drop, get_or, refl, sym, ap, ap₂, ◌∙◌, arith, subst, append-nil, append_assoc, length-append, take, mod-lt, zero-lt-suc, pow-suc, pow_mono}
use lib.Bits.{bit_and, and_step, and_self}
use lib.Count.{count_trailing_zeros, under}
use Rattle.std.proofs.lemmas.List.{take_rest, length-take, length-drop, length-map, map-append, get_or_append_left, get_or-append-add, get_or-map, get_or-drop, nil_from_length}
use Rattle.std.proofs.lemmas.Nat.{div-add-mod'}
use Rattle.std.proofs.lemmas.Simd.{map-map}
use Rattle.std.proofs.Math.Nat.{zero-add, mul-le-mul_right}
use Rattle.rstar.specs.Lists.{product}
use Rattle.rstar.specs.inside.PairWalks.{marked_items, with_marks, IsFirstPair}
use Rattle.rstar.proofs.joining.PairsByChildren.{the_pair}

digit : (P : ℕ → Type 0) → P 0 → P 1 → (n : ℕ) → n < 2 → P n
digit P zero' one zero h = zero'
digit P zero' one (suc zero) h = one
digit P zero' one (suc (suc n)) h = absurd (omega (arith, h))

twice-fits : (marks n : ℕ) (b : Bool) → marks < 2 ^ n → (if b then 1 else 0) + 2 * marks < 2 ^ suc n
twice-fits marks n true h = omega (arith, h, pow-suc 2 n)
twice-fits marks n false h = omega (arith, h, pow-suc 2 n)

with_marks-fit : (bs : List Bool) (marks n : ℕ) → marks < 2 ^ n → with_marks bs marks < 2 ^ (length bs + n)
with_marks-fit [] marks n h = subst (λ k. marks < 2 ^ k) (sym (zero-add n)) h
with_marks-fit (b ∷ bs) marks n h =
    let longer : suc (length bs + n) ≡ suc (length bs) + n = omega arith in
    subst (λ k. (if b then 1 else 0) + 2 * with_marks bs marks < 2 ^ k) longer (twice-fits (with_marks bs marks) (length bs + n) b (with_marks-fit bs marks n h))

pub marked-zero : {A : Type 0} (xs : List A) → marked_items 0 xs ≡ []
marked-zero [] = refl
marked-zero (x ∷ xs) = marked-zero xs

abbrev with_digit : {A : Type 0} → ℕ → A → List A → List A
with_digit d x rest = if d == 1 then x ∷ rest else rest

-- the lowest digit is taken away
cleared : {A : Type 0} (m z : ℕ) (x : A) (xs : List A) → 0 < m → bit_and (m / 2) ((m - 1) / 2) ≡ z → marked_items (bit_and m (m - 1)) (x ∷ xs) ≡ marked_items z xs
cleared m z x xs some half =
    let low : min (m % 2) ((m - 1) % 2) ≡ 0 = omega arith in
    let is : bit_and m (m - 1) ≡ z * 2 + 0 = and_step m (m - 1) ∙ ap₂ (λ u v. u * 2 + v) half low in
    let p : bit_and m (m - 1) % 2 ≡ 0 = omega arith in let q : bit_and m (m - 1) / 2 ≡ z = omega arith in
    ap₂ (λ u v. with_digit u x (marked_items v xs)) p q

module _ {A : Type 0} where
  -- the place of the lowest digit lies behind the items
  pub marked-none : (k m : ℕ) (xs : List A) → length xs ≤ count_trailing_zeros k m → marked_items m xs ≡ []
  unfolding count_trailing_zeros
  marked-none k m [] long = refl
  marked-none zero m (x ∷ xs) long = absurd (omega (arith, long))
  marked-none (suc k) m (x ∷ xs) long = digit (λ d. length (x ∷ xs) ≤ under d (count_trailing_zeros k (m / 2)) → with_digit d x (marked_items (m / 2) xs) ≡ [])
      (λ h. marked-none k (m / 2) xs (omega (arith, h))) (λ h. absurd (omega (arith, h))) (m % 2) (mod-lt m (zero-lt-suc 1)) long

  abbrev Goal : ℕ → ℕ → A → List A → A → ℕ → Type 0
  Goal k m x xs d b = under b (count_trailing_zeros k (m / 2)) < length (x ∷ xs)
      → with_digit b x (marked_items (m / 2) xs) ≡ get_or (x ∷ xs) (under b (count_trailing_zeros k (m / 2))) d ∷ marked_items (bit_and m (m - 1)) (x ∷ xs)

  first-marked : (k m : ℕ) (xs : List A) (d : A) → 0 < m → m < 2 ^ k → count_trailing_zeros k m < length xs
      → marked_items m xs ≡ get_or xs (count_trailing_zeros k m) d ∷ marked_items (bit_and m (m - 1)) xs
  unfolding count_trailing_zeros
  first-marked k m [] d some h short = absurd (omega (arith, short))
  first-marked zero m (x ∷ xs) d some h short = absurd (omega (arith, some, h))
  first-marked (suc k) m (x ∷ xs) d some h short = digit (λ b. m % 2 ≡ b → Goal k m x xs d b) (even (first-marked k (m / 2) xs d)) odd (m % 2) (mod-lt m (zero-lt-suc 1)) refl short where
    odd : m % 2 ≡ 1 → Goal k m x xs d 1
    odd e s = let half : (m - 1) / 2 ≡ m / 2 = omega arith in ap (λ l. x ∷ l) (sym (cleared m (m / 2) x xs some (ap (bit_and (m / 2)) half ∙ and_self (m / 2))))

    even : (0 < m / 2 → m / 2 < 2 ^ k → count_trailing_zeros k (m / 2) < length xs
        → marked_items (m / 2) xs ≡ get_or xs (count_trailing_zeros k (m / 2)) d ∷ marked_items (bit_and (m / 2) (m / 2 - 1)) xs) → m % 2 ≡ 0 → Goal k m x xs d 0
    even rest e s =
        let half : (m - 1) / 2 ≡ m / 2 - 1 = omega arith in
        rest (omega arith) (omega (arith, pow-suc 2 k)) (omega (arith, s))
        ∙ ap (λ l. get_or xs (count_trailing_zeros k (m / 2)) d ∷ l) (sym (cleared m (bit_and (m / 2) (m / 2 - 1)) x xs some (ap (bit_and (m / 2)) half)))

-- ---- pairs, row by row

length-product : {A B : Type 0} (xs : List A) (ys : List B) → length (product xs ys) ≡ length xs * length ys
length-product [] ys = omega arith
length-product {A} {B} (x ∷ xs) ys =
    omega (arith, length-append (map (λ y. the_pair x y) ys) (product xs ys), length-map ys (λ y. the_pair x y), length-product xs ys)

-- the pair at two places
pair-at : {A B : Type 0} (i j : ℕ) (xs : List A) (ys : List B) (x : A) (y : B) → i < length xs → j < length ys
    → get_or (product xs ys) (i * length ys + j) (the_pair x y) ≡ the_pair (get_or xs i x) (get_or ys j y)
pair-at i j [] ys x y few narrow = absurd (omega (arith, few))
pair-at zero j (x' ∷ xs) ys x y few narrow =
    let row = map (λ z. the_pair x' z) ys in let long = length-map ys (λ z. the_pair x' z) in
    let place : 0 * length ys + j ≡ j = omega arith in
    ap (λ k. get_or (row ++ product xs ys) k (the_pair x y)) place ∙ get_or_append_left row (product xs ys) (the_pair x y) j (omega (arith, long, narrow))
    ∙ get_or-map (λ z. the_pair x' z) ys j y (the_pair x y) narrow
pair-at (suc i) j (x' ∷ xs) ys x y few narrow =
    let row = map (λ z. the_pair x' z) ys in let long = length-map ys (λ z. the_pair x' z) in
    let place : suc i * length ys + j ≡ length row + (i * length ys + j) = omega (arith, long) in
    ap (λ k. get_or (row ++ product xs ys) k (the_pair x y)) place ∙ get_or-append-add row (product xs ys) (i * length ys + j) (the_pair x y)
    ∙ pair-at i j xs ys x y (omega (arith, few)) narrow

-- the first of the items from a place on is the item at that place
first-from : {A : Type 0} (i : ℕ) (xs from rest : List A) (x : A) → from ≡ take (length xs - i) (drop i xs) → from ≡ x ∷ rest → get_or xs i x ≡ x
first-from i xs from rest x is first =
    let place : i ≡ i + 0 = omega arith in
    ap (λ k. get_or xs k x) place ∙ sym (get_or-drop i xs 0 x) ∙ ap (λ l. get_or l 0 x) (sym (take_rest xs i) ∙ sym is ∙ first)

module _ {A B : Type 0} where
  -- the place of the lowest digit is that of the first pair
  pub lowest-pair : (m : ℕ) (xs from : List A) (ys beside : List B) (others : ℕ) → 0 < m → m < 2 ^ 64 → 0 < length ys → count_trailing_zeros 64 m / length ys < length xs
      → from ≡ take (length xs - count_trailing_zeros 64 m / length ys) (drop (count_trailing_zeros 64 m / length ys) xs)
      → beside ≡ take (length ys - count_trailing_zeros 64 m % length ys) (drop (count_trailing_zeros 64 m % length ys) ys)
      → others ≡ bit_and m (m - 1) → IsFirstPair xs ys m from beside others
  lowest-pair m xs from ys beside others some h wide few is is' made =
      let place = count_trailing_zeros 64 m in let row = place / length ys in let column = place % length ys in
      let parts : place ≡ row * length ys + column = sym (div-add-mod' place (length ys)) in
      let narrow : column < length ys = mod-lt place wide in
      let rows : suc row * length ys ≤ length xs * length ys = mul-le-mul_right (length ys) few in
      let long = length-product xs ys in
      let short : count_trailing_zeros 64 m < length (product xs ys) = omega (arith, parts, narrow, rows, long) in
      record {
        left = omega (arith, ap length is, length-take (length xs - row) (drop row xs), length-drop row xs, few);
        right = omega (arith, ap length is', length-take (length ys - column) (drop column ys), length-drop column ys, narrow);
        all = λ l ls r rs e e'.
            let first = first-from row xs from ls l is e in let second = first-from column ys beside rs r is' e' in
            let here = ap (λ k. get_or (product xs ys) k (the_pair l r)) parts ∙ pair-at row column xs ys l r few narrow ∙ ap₂ (λ (x : A) (y : B). the_pair x y) first second in
            first-marked 64 m (product xs ys) (the_pair l r) some h short ∙ ap₂ (λ p n. p ∷ marked_items n (product xs ys)) here (sym made);
      }

  -- it lies behind the last row
  pub pairs-none : (m : ℕ) (xs : List A) (ys : List B) → length xs ≤ count_trailing_zeros 64 m / length ys → marked_items m (product xs ys) ≡ []
  pairs-none m xs ys past =
      let place = count_trailing_zeros 64 m in
      let rows : length xs * length ys ≤ place / length ys * length ys = mul-le-mul_right (length ys) past in
      marked-none 64 m (product xs ys) (omega (arith, div-add-mod' place (length ys), rows, length-product xs ys))

-- ---- marks made from the last item on

digits : {A : Type 0} (test : A → Bool) (x : A) (done : List A) (marks : ℕ) → marked_items marks done ≡ filter test done → (b : Bool) → test x ≡ b
    → with_digit (((if b then 1 else 0) + 2 * marks) % 2) x (marked_items (((if b then 1 else 0) + 2 * marks) / 2) done) ≡ filter test (x ∷ done)
digits test x done marks is true tested =
    let p : (1 + 2 * marks) % 2 ≡ 1 = omega arith in let q : (1 + 2 * marks) / 2 ≡ marks = omega arith in
    ap₂ (λ u v. with_digit u x (marked_items v done)) p q ∙ ap (λ l. x ∷ l) is ∙ ap (λ (c : Bool). if c then x ∷ filter test done else filter test done) (sym tested)
digits test x done marks is false tested =
    let p : (0 + 2 * marks) % 2 ≡ 0 = omega arith in let q : (0 + 2 * marks) / 2 ≡ marks = omega arith in
    ap₂ (λ u v. with_digit u x (marked_items v done)) p q ∙ is ∙ ap (λ (c : Bool). if c then x ∷ filter test done else filter test done) (sym tested)

-- marks of all items give those that pass
pub marked-filter : {A : Type 0} (test : A → Bool) (xs : List A) → marked_items (with_marks (map test xs) 0) xs ≡ filter test xs
marked-filter test [] = refl
marked-filter test (x ∷ xs) = digits test x xs (with_marks (map test xs) 0) (marked-filter test xs) (test x) refl

with_marks-append : (bs cs : List Bool) (marks : ℕ) → with_marks (bs ++ cs) marks ≡ with_marks bs (with_marks cs marks)
with_marks-append [] cs marks = refl
with_marks-append (b ∷ bs) cs marks = ap (λ n. (if b then 1 else 0) + 2 * n) (with_marks-append bs cs marks)

-- so far the marks are those of the tests of what is behind the rest, in front of others
pub record IsMarked {A : Type 0} (tests : List A → List Bool) (items rest : List A) (others marks : ℕ) : Type 0 where
  pub done : List A
  pub all : items ≡ rest ++ done
  pub made : marks ≡ with_marks (tests done) others

module _ {A : Type 0} (tests : List A → List Bool) (items : List A) (others : ℕ) where
  pub mark-first : tests [] ≡ [] → IsMarked tests items items others others
  mark-first none = record { done = []; all = sym (append-nil items); made = ap (λ bs. with_marks bs others) (sym none) }

  pub mark-more : (rest before : List A) (x : A) (here : List Bool) (marks more : ℕ) → IsMarked tests items rest others marks → rest ≡ before ++ x ∷ [] → more ≡ with_marks here marks
      → ((done : List A) → tests (x ∷ done) ≡ here ++ tests done) → IsMarked tests items before others more
  mark-more rest before x here marks more so is made next = record {
    done = x ∷ so.done;
    all = so.all ∙ ap (λ l. l ++ so.done) is ∙ append_assoc before (x ∷ []) so.done;
    made = made ∙ ap (with_marks here) so.made ∙ sym (ap (λ bs. with_marks bs others) (next so.done) ∙ with_marks-append here (tests so.done) others);
  }

  mark-fits : {rest : List A} {marks : ℕ} (so : IsMarked tests items rest others marks) (n k : ℕ) → others < 2 ^ n → length (tests so.done) + n ≤ k → marks < 2 ^ k
  mark-fits so n k room fewer =
      let power : 2 ^ (length (tests so.done) + n) ≤ 2 ^ k = pow_mono fewer in
      omega (arith, so.made, power, with_marks-fit (tests so.done) others n room)

  pub mark-all : (rest : List A) (marks : ℕ) → IsMarked tests items rest others marks → length rest ≡ 0 → marks ≡ with_marks (tests items) others
  mark-all rest marks so none = so.made ∙ ap (λ l. with_marks (tests l) others) (sym (so.all ∙ ap (λ l. l ++ so.done) (nil_from_length rest none)))

-- there is room for one more mark in a row
pub row-fits : {A : Type 0} (test : A → Bool) (items rest before : List A) (x : A) (others marks : ℕ) → length items ≤ 64 → others < 2 ^ (64 - length items)
    → IsMarked (map test) items rest others marks → rest ≡ before ++ x ∷ [] → marks < 2 ^ 63
row-fits test items rest before x others marks few room so is =
    mark-fits (map test) items others so (64 - length items) 63 room
    (omega (arith, ap length is, length-append before (x ∷ []), ap length so.all, length-append rest so.done, length-map so.done test, few))

-- and for one more row
pub rows-fit : {A B : Type 0} (test : A × B → Bool) (lefts rest before : List A) (rights : List B) (x : A) (marks : ℕ) → IsMarked (λ ls. map test (product ls rights)) lefts rest 0 marks
    → rest ≡ before ++ x ∷ [] → length lefts * length rights ≤ 64 → (length rights ≤ 64) × (marks < 2 ^ (64 - length rights))
rows-fit test lefts rest before rights x marks so is few =
    let more : suc (length so.done) ≤ length lefts = omega (arith, ap length is, length-append before (x ∷ []), ap length so.all, length-append rest so.done) in
    let rows : suc (length so.done) * length rights ≤ length lefts * length rights = mul-le-mul_right (length rights) more in (
      omega (arith, rows, few),
      mark-fits (λ ls. map test (product ls rights)) lefts 0 so 0 (64 - length rights) (omega arith)
          (omega (arith, length-map (product so.done rights) test, length-product so.done rights, rows, few)),
    )

-- the tests of one more row
pub row-tests : {A B : Type 0} (test : A × B → Bool) (x : A) (rights : List B) (done : List A)
    → map test (product (x ∷ done) rights) ≡ map (λ y. test (the_pair x y)) rights ++ map test (product done rights)
row-tests test x rights done = map-append test (map (λ y. the_pair x y) rights) (product done rights) ∙ ap (λ l. l ++ map test (product done rights)) (map-map test (λ y. the_pair x y) rights)
