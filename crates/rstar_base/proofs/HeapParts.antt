-- What a push and a pop keep: of the inline items, and of the rest.
use Rattle.std.proofs.Common.{◌≡◌, ℕ, zero, suc, ◌+◌, ◌-◌, ◌≤◌, ◌<◌, List, [], ◌∷◌, ◌++◌, length, refl, sym, ap, subst, ◌∙◌, arith, true, false, Option, Some, None, ◌↔◌, slice_index_or, drop, length-append, All}
use Rattle.std.proofs.HeapSift as sifts
use Rattle.std.proofs.Math.Seq.{take-length, drop-length}
use Rattle.std.proofs.lemmas.List.{drop_all, get_or_default, same_from_push}
use Rattle.std.proofs.lemmas.List.Edits.{get_or-insert_below}
use Rattle.std.specs.Cmp.{IsTotalOrder, IsStrictWeakOrder}
use Rattle.std.specs.Option.{option_cmp}
use Rattle.std.specs.Ordering.{is_lt}
use Rattle.std.specs.declared.cmp.Ordering.{Ordering}
use Rattle.std.specs.List.{AllByRecursion, insert, swap_remove}
use Rattle.std.specs.List.Sorted.{IsPermutation}
use Rattle.std.specs.Prelude.{slice_get, slice_set}
use Rattle.std.specs.BinaryHeap.{IsHeap, IsUpperBound, lt_by_cmp}
use Rattle.std.specs.BinaryHeap.Sift.{SiftsUp, SiftsDown, RestoresHeap}
use Rattle.std.specs.Slice.Heapsort.{IsHeapWithin}
use Rattle.std.proofs.lemmas.List.Sorted.{IsPermutation-trans, IsPermutation-to_front, IsPermutation-sym, IsPermutation-cons, IsPermutation-insert, IsPermutation-middle, IsPermutation-append_left, IsPermutation-append_right, IsPermutation-swap_remove, length_permutation}
use Rattle.std.proofs.lemmas.List.Elements.{All-from_recursion}
use Rattle.rstar_base.specs.SmallHeaps.{Held, present, Rises, IsOrdered}
use Rattle.rstar_base.proofs.Lists.{all-append, all_along, all_first, all_map, all_second}
use Rattle.rstar_base.proofs.Present.{AreFull, present-permutation}

-- ---- lists

pub all-insert : {X : Type 0} (P : X → Type 0) (xs : List X) (i : ℕ) (x : X) → AllByRecursion P xs → P x → AllByRecursion P (insert xs i x)
all-insert P xs i x h p = all_along P _ _ (IsPermutation-insert xs i x) (p, h)

pub none-beyond : {X : Type 0} (P : X → Type 0) (xs : List X) (n : ℕ) → length xs ≤ n → AllByRecursion P (drop n xs)
none-beyond P xs n le = rw (drop_all n xs le) tt

-- a place kept free at the end, and one further down: the item from there moves up
pub insert-end : {X : Type 0} (xs : List X) (x : X) → insert xs (length xs) x ≡ xs ++ x ∷ []
insert-end xs x = rw (take-length xs, drop-length xs) refl

moved-up : {X : Type 0} (xs : List X) (i : ℕ) (x d : X) → i < length xs → slice_set (slice_set (insert xs (suc i) x) i x) (suc i) (slice_index_or (insert xs (suc i) x) i d) ≡ insert xs i x
moved-up [] i x d less = absurd (omega (arith, less))
moved-up (a ∷ xs) zero x d less = refl
moved-up (a ∷ xs) (suc i) x d less = ap (λ l. a ∷ l) (moved-up xs i x d (omega (arith, less)))

pub insert-lower : {X : Type 0} (front xs : List X) (i j : ℕ) (x n r d : X) → xs ≡ insert front j x → n ≡ x → r ≡ slice_index_or xs i d → suc i ≡ j → i < length front → slice_set (slice_set xs i n) j r ≡ insert front i x
insert-lower front xs i j x n r d is free read next less =
    let moved = subst (λ k. slice_set (slice_set (insert front k x) i x) k (slice_index_or (insert front k x) i d) ≡ insert front i x) next (moved-up front i x d less) in
    cc

-- an item in the place that was kept free
pub insert-set : {X : Type 0} (xs : List X) (i : ℕ) (x y : X) → i ≤ length xs → slice_set (insert xs i x) i y ≡ insert xs i y
insert-set xs zero x y le = refl
insert-set [] (suc i) x y le = absurd (omega arith)
insert-set (a ∷ xs) (suc i) x y le = ap (λ l. a ∷ l) (insert-set xs i x y (omega arith))

pub read-before : {X : Type 0} (front xs : List X) (i j : ℕ) (x d e : X) → xs ≡ insert front j x → i < j → j ≤ length front → slice_index_or xs i d ≡ slice_index_or front i e
read-before front xs i j x d e is less le = ap (λ l. slice_index_or l i d) is ∙ get_or-insert_below front j x d i less le ∙ get_or_default front i d e (omega arith)

pub present-snoc : {X : Type 0} (os : List (Option X)) (x : X) → present (os ++ Some x ∷ []) ≡ present os ++ x ∷ []
present-snoc [] x = refl
present-snoc (None ∷ os) x = present-snoc os x
present-snoc (Some y ∷ os) x = ap (λ l. y ∷ l) (present-snoc os x)

-- the last of a list
pub last_split : {X : Type 0} (os : List (Option X)) (x : X) → Some (Some x) ≡ slice_get os (length os - 1) → (front : List (Option X)) × (os ≡ front ++ Some x ∷ [])
last_split [] x e = cc
last_split (o ∷ []) x e = ([], let same : Some (Some x) ≡ Some o = e in let got : Some x ≡ o = cc in ap (λ a. a ∷ []) (sym got))
last_split (o ∷ p ∷ os) x e =
    let less : length (o ∷ p ∷ os) - 1 ≡ suc (length (p ∷ os) - 1) = omega arith in
    let rest = last_split (p ∷ os) x (e ∙ ap (slice_get (o ∷ p ∷ os)) less) in
    (o ∷ rest.0, ap (λ l. o ∷ l) rest.1)

pub first_is : {X : Type 0} (xs : List X) (x d : X) → Some x ≡ slice_get xs 0 → slice_index_or xs 0 d ≡ x
first_is [] x d e = cc
first_is (a ∷ xs) x d e = let same : Some x ≡ Some a = e in cc

module _ {X : Type 0} (R : X → X → Ordering) where
  -- the order of the places is that of the items
  all-same : (x : X) (os : List (Option X)) → AreFull os
      → AllByRecursion (λ p. is_lt (option_cmp R p (Some x)) ≡ false) os ↔ AllByRecursion (λ y. is_lt (R y x) ≡ false) (present os)
  all-same x [] f = ((λ h. h), λ h. h)
  all-same x (None ∷ os) f = absurd (let n = f.0 in cc)
  all-same x (Some y ∷ os) f = let r = all-same x os f.1 in ((λ h. (h.0, r.0 h.1)), λ h. (h.0, r.1 h.1))

  pub rises-same : (os : List (Option X)) → AreFull os → Rises (option_cmp R) os ↔ Rises R (present os)
  rises-same [] f = ((λ h. h), λ h. h)
  rises-same (None ∷ os) f = absurd (let n = f.0 in cc)
  rises-same (Some x ∷ os) f =
      let a = all-same x os f.1 in let r = rises-same os f.1 in ((λ h. (a.0 h.0, r.0 h.1)), λ h. (a.1 h.0, r.1 h.1))

  -- the last is less than none before it
  pub rises-last : (xs : List X) (x : X) → Rises R (xs ++ x ∷ []) → AllByRecursion (λ y. is_lt (R x y) ≡ false) xs
  rises-last [] x h = tt
  rises-last (a ∷ xs) x h = ((all_second (λ y. is_lt (R y a) ≡ false) xs (x ∷ []) h.0).0, rises-last xs x h.1)

  pub rises-front : (xs : List X) (x : X) → Rises R (xs ++ x ∷ []) → Rises R xs
  rises-front [] x h = tt
  rises-front (a ∷ xs) x h = (all_first (λ y. is_lt (R y a) ≡ false) xs (x ∷ []) h.0, rises-front xs x h.1)

  pub ordered-of : (h : Held X) → Rises R h.inline → IsHeap R h.rest → IsOrdered R h
  unfolding IsOrdered
  ordered-of h a b = (a, b)

  -- what lies in the places of an ordered heap, h as the code sees it and k as callers do
  pub inline-of : (h k : Held X) → h ≡ k → IsOrdered R k → Rises R h.inline
  unfolding IsOrdered
  inline-of h k e a = rw e a.0

  pub rest-of : (h k : Held X) → h ≡ k → IsOrdered R k → IsHeap R h.rest
  unfolding IsOrdered
  rest-of h k e a = rw e a.1

module _ {X : Type 0} (R : X → X → Ordering) (o : IsTotalOrder R) where
  ranks : IsStrictWeakOrder (λ x y. is_lt (R x y))
  ranks = sifts.ranks o

  -- an item goes in between those that are not greater and those that are
  pub rises-insert : (xs : List X) (i : ℕ) (x : X) → Rises R xs → i ≤ length xs → AllByRecursion (λ y. is_lt (R y x) ≡ false) (drop i xs) → ((j : ℕ) (d : X) → i ≡ suc j → is_lt (R x (slice_index_or xs j d)) ≡ false) → Rises R (insert xs i x)
  rises-insert xs zero x h le after before = (after, h)
  rises-insert [] (suc i) x h le after before = absurd (omega arith)
  rises-insert (a ∷ xs) (suc zero) x h le after before = (all-insert (λ y. is_lt (R y a) ≡ false) xs zero x h.0 (before 0 a refl), rises-insert xs zero x h.1 (omega arith) after (λ j d e. absurd (omega arith)))
  rises-insert (a ∷ xs) (suc (suc i)) x h le after before =
      let above = before (suc i) a refl in
      let over = All-from_recursion (λ y. is_lt (R y a) ≡ false) xs h.0 i a (omega arith) in (
        all-insert (λ y. is_lt (R y a) ≡ false) xs (suc i) x h.0 (ranks.chain x (slice_index_or xs i a) a above over),
        rises-insert xs (suc i) x h.1 (omega arith) after (λ j d e. before (suc j) d (ap suc e)),
      )

  -- one less than the first of a list that is less than no other
  below-all : (x y : X) (xs : List X) → is_lt (R x y) ≡ false → AllByRecursion (λ z. is_lt (R y z) ≡ false) xs → AllByRecursion (λ z. is_lt (R x z) ≡ false) xs
  below-all x y xs e h = all_map (λ z. is_lt (R y z) ≡ false) (λ z. is_lt (R x z) ≡ false) (λ z. ranks.chain x y z e) xs h

  -- ---- the greater of the two ends

  module _ (os : List (Option X)) (others : List X) (last first : X) (full : AreFull os) (rises : Rises R (present os)) (heap : IsHeap R others)
      (there : Some first ≡ slice_get others 0) (end : Some (Some last) ≡ slice_get os (length os - 1)) where
    split : (front : List (Option X)) × (os ≡ front ++ Some last ∷ [])
    split = last_split os last end

    shown : present os ≡ present split.0 ++ last ∷ []
    shown = ap present split.1 ∙ present-snoc split.0 last

    pub first-above : is_lt (R last first) ≡ true → (d : X) → AllByRecursion (λ y. is_lt (R (slice_index_or others 0 d) y) ≡ false) (present os)
    first-above less d =
        let over = ranks.one_way last first less in
        let ends = rises-last R (present split.0) last (subst (Rises R) shown rises) in
        let all : AllByRecursion (λ y. is_lt (R first y) ≡ false) (present split.0 ++ last ∷ []) = all-append (λ y. is_lt (R first y) ≡ false) (present split.0) (last ∷ []) (below-all first last (present split.0) over ends) (over, tt) in
        subst (λ f. AllByRecursion (λ y. is_lt (R f y) ≡ false) (present os)) (sym (first_is others first d there)) (subst (AllByRecursion (λ y. is_lt (R first y) ≡ false)) (sym shown) all)

    pub last-above : is_lt (R last first) ≡ false → (xs : List X) (x : X) → present os ≡ xs ++ x ∷ [] → IsUpperBound R x others
    last-above more xs x e =
        let same : last ≡ x = (same_from_push (present split.0) xs last x (sym shown ∙ e)).1 in
        let top = sifts.greatest o others first (sym (first_is others first first there)) heap in
        subst (λ y. IsUpperBound R y others) same (below-all last first others more top)

  -- ---- a binary heap

  pub heap-push : (xs s w : List X) (x : X) (at : ℕ) → at ≡ length xs → s ≡ xs ++ x ∷ [] → IsPermutation s w → SiftsUp R s at w → IsHeap R xs → IsHeap R w
  heap-push xs s w x at start put moved rises heap =
      let long : length s ≡ length (xs ++ x ∷ []) = ap length put in
      let longer = length_permutation s w moved in
      let added = length-append xs (x ∷ []) in
      sifts.pushed R o xs (x ∷ []) s w at start put (omega arith) rises heap

  restores : (s w : List X) → IsPermutation s w → SiftsDown R s 0 (length s) w → RestoresHeap R s 1 (length s) w
  unfolding SiftsDown RestoresHeap IsHeap
  restores s w moved sinks = λ h. subst (λ n. IsHeapWithin (lt_by_cmp R) w 0 n) (sym (length_permutation s w moved)) (sinks.1 h)

  pub heap-pop : (xs s w : List X) (x : X) → 0 < length xs → x ≡ slice_index_or xs 0 x → s ≡ swap_remove xs 0 x → length s + 1 ≡ length xs → IsPermutation s w → SiftsDown R s 0 (length s) w → IsHeap R xs → IsHeap R w × IsUpperBound R x xs
  heap-pop xs s w x some first took long moved sinks heap = sifts.popped R o xs s w x (length s) (omega arith) first took (restores s w moved sinks) heap

-- ---- bags

pub bag-push : {X : Type 0} (xs s w : List X) (x : X) → s ≡ xs ++ x ∷ [] → IsPermutation s w → IsPermutation (x ∷ xs) w
bag-push xs s w x put moved = IsPermutation-trans _ _ _ (IsPermutation-sym _ _ (IsPermutation-to_front xs x)) (subst (λ l. IsPermutation l w) put moved)

pub bag-pop : {X : Type 0} (xs s w : List X) (x : X) → 0 < length xs → x ≡ slice_index_or xs 0 x → s ≡ swap_remove xs 0 x → IsPermutation s w → IsPermutation xs (x ∷ w)
bag-pop xs s w x some first took moved = IsPermutation-trans _ _ _ (subst (λ l. IsPermutation xs (x ∷ l)) (sym took) (IsPermutation-swap_remove xs 0 x some first)) (IsPermutation-cons x s w moved)

pub bag-inline : {X : Type 0} (os : List (Option X)) (i : ℕ) (x : X) → AreFull os → IsPermutation (x ∷ present os) (present (insert os i (Some x)))
bag-inline os i x full = present-permutation x (Some x ∷ os) (insert os i (Some x)) (IsPermutation-insert os i (Some x)) (refl, full)

-- the rest gives one up
pub bag-rest : {X : Type 0} (a b c : List X) (x : X) → IsPermutation b (x ∷ c) → IsPermutation (a ++ b) (x ∷ (a ++ c))
bag-rest a b c x p = IsPermutation-trans _ _ _ (IsPermutation-append_right a b (x ∷ c) p) (IsPermutation-middle a x c)

-- the inline items give the last up
pub bag-last : {X : Type 0} (a b c : List X) (x : X) → a ≡ c ++ x ∷ [] → IsPermutation (a ++ b) (x ∷ (c ++ b))
bag-last a b c x e = subst (λ l. IsPermutation (l ++ b) (x ∷ (c ++ b))) (sym e) (IsPermutation-append_left b (c ++ x ∷ []) (x ∷ c) (IsPermutation-to_front c x))

-- the inline items take one in, and the rest
pub bag-rest-more : {X : Type 0} (a b c : List X) (x : X) → IsPermutation (x ∷ b) c → IsPermutation (x ∷ (a ++ b)) (a ++ c)
bag-rest-more a b c x p = IsPermutation-trans _ _ _ (IsPermutation-sym _ _ (IsPermutation-middle a x b)) (IsPermutation-append_right a (x ∷ b) c p)

-- x is less than none of what is left
pub greatest-rest : {X : Type 0} (R : X → X → Ordering) (a b c : List X) (x : X) → ((d : X) → AllByRecursion (λ y. is_lt (R (slice_index_or b 0 d) y) ≡ false) a) → x ≡ slice_index_or b 0 x → IsPermutation b (x ∷ c) → IsUpperBound R x b → All (λ y. is_lt (R x y) ≡ false) (a ++ c)
greatest-rest R a b c x above first p top =
    let inline : AllByRecursion (λ y. is_lt (R x y) ≡ false) a = subst (λ f. AllByRecursion (λ y. is_lt (R f y) ≡ false) a) (sym first) (above x) in
    let left = all_along (λ y. is_lt (R x y) ≡ false) b (x ∷ c) p top in
    All-from_recursion (λ y. is_lt (R x y) ≡ false) (a ++ c) (all-append (λ y. is_lt (R x y) ≡ false) a c inline left.1)

pub greatest-last : {X : Type 0} (R : X → X → Ordering) (a b c : List X) (x : X) → Rises R a → a ≡ c ++ x ∷ [] → ((xs : List X) (x : X) → a ≡ xs ++ x ∷ [] → IsUpperBound R x b) → All (λ y. is_lt (R x y) ≡ false) (c ++ b)
greatest-last R a b c x rises e below = All-from_recursion (λ y. is_lt (R x y) ≡ false) (c ++ b) (all-append (λ y. is_lt (R x y) ≡ false) c b (rises-last R c x (subst (Rises R) e rises)) (below c x e))
