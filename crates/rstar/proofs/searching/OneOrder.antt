-- Two lists of the same elements in one order are one list, up to elements that compare equal; and so are two lists of
-- the first k.
use Rattle.std.proofs.Common.{◌≡◌, inl, inr, ℕ, ◌+◌, ◌<◌, ◌≤◌, true, false, Less, Equal, Greater, List, [], ◌∷◌, ◌++◌, length, sum_by, Result, Ok, Err, IfOk, if◌then◌else◌, refl, ap, sym, ◌∙◌, arith, append-nil}
use Rattle.std.proofs.HeapSift as sifts
use Rattle.std.specs.Cmp.{IsTotalOrder}
use Rattle.std.specs.List.{AllByRecursion}
use Rattle.std.specs.List.Sorted.{IsPermutation}
use Rattle.std.specs.Ordering.{is_lt, ordering_reverse}
use Rattle.std.specs.declared.cmp.Ordering.{Ordering}
use Rattle.std.proofs.lemmas.Bool.{cases_Bool}
use Rattle.std.proofs.lemmas.Cmp.{tied_itself, alike_right}
use Rattle.std.proofs.lemmas.List.{length-append}
use Rattle.std.proofs.lemmas.List.Elements.{recursion_from_All}
use Rattle.std.proofs.lemmas.List.Sorted.{IsPermutation-sym, IsPermutation-trans, sum_by-IsPermutation, length_permutation}
use Rattle.std.proofs.lemmas.List.Sums.{sum_by-cons}
use Rattle.rstar_base.proofs.Lists.{all-append}
use Rattle.rstar.specs.Lists.{IsNotAfter, AreOrdered, AreFirstOf, AreAlike}

-- a of some n, and b: at most k, and all where they are fewer
one-length : (a b l m k n : ℕ) → n ≡ a + l → n ≡ b + m → a ≤ k → b ≤ k → (a < k → l ≡ 0) → (b < k → m ≡ 0) → a ≡ b
one-length a b l m k n first second few as_few all as_all = grind arith

module _ {T : Type 0} (order : T → T → Ordering) (total : IsTotalOrder order) where
  abbrev before : T → T → Type 0
  before = IsNotAfter order

  -- 1 where u does not come behind z
  abbrev reach : T → T → ℕ
  reach z u = if is_lt (order z u) then 0 else 1

  none-reached : (z x : T) (us : List T) → order z x ≡ Less → AllByRecursion (before x) us → sum_by (reach z) us ≡ 0
  none-reached z x [] less h = refl
  none-reached z x (u ∷ us) less h =
      -- z comes before x, and x may stand before u
      let one : reach z u ≡ 0 = elim (cases_Bool (is_lt (order z u))) [ inl e ↦ rw e | inr e ↦ let no : true ≡ false = sym (ap is_lt less) ∙ (sifts.ranks total).chain z u x e h.0 in cc ] in
      omega (arith, one, none-reached z x us less h.1, sum_by-cons (reach z) u us)

  -- no head comes before the other
  not-before : (x y : T) (xs ys : List T) → ((z : T) → sum_by (reach z) (x ∷ xs) ≡ sum_by (reach z) (y ∷ ys)) → AllByRecursion (before y) ys → order x y ≡ Less → ⊥
  not-before x y xs ys same h less =
      let one : reach x y ≡ 0 = ap (λ r. if is_lt r then 0 else 1) less in
      let own : reach x x ≡ 1 = ap (λ r. if is_lt r then 0 else 1) (tied_itself total x) in
      omega (arith, one, own, none-reached x y ys less h, sum_by-cons (reach x) y ys, sum_by-cons (reach x) x xs, same x)

  heads : (x y : T) (xs ys : List T) → ((z : T) → sum_by (reach z) (x ∷ xs) ≡ sum_by (reach z) (y ∷ ys)) → AllByRecursion (before x) xs → AllByRecursion (before y) ys → order x y ≡ Equal
  heads x y xs ys same h k = go (order x y) refl
    where
      go : (r : Ordering) → order x y ≡ r → order x y ≡ Equal
      go Less e = absurd (not-before x y xs ys same k e)
      go Equal e = e
      go Greater e = absurd (not-before y x ys xs (λ z. sym (same z)) h (total.antisymm y x ∙ ap ordering_reverse e))

  -- of two lists of the same elements, as many in front are alike: those are in order, and stand before the others
  alike : (xs ys ls ms : List T) → length xs ≡ length ys → ((z : T) → sum_by (reach z) (xs ++ ls) ≡ sum_by (reach z) (ys ++ ms)) → AreOrdered before xs → AreOrdered before ys
      → AllByRecursion (λ x. AllByRecursion (before x) ls) xs → AllByRecursion (λ y. AllByRecursion (before y) ms) ys → AreAlike order xs ys
  alike [] [] ls ms long same h k f g = tt
  alike [] (y ∷ ys) ls ms long same h k f g = absurd (omega (arith, long))
  alike (x ∷ xs) [] ls ms long same h k f g = absurd (omega (arith, long))
  alike (x ∷ xs) (y ∷ ys) ls ms long same h k f g =
      let equal = heads x y (xs ++ ls) (ys ++ ms) same (all-append (before x) xs ls h.0 f.0) (all-append (before y) ys ms k.0 g.0) in
      let tails : (z : T) → sum_by (reach z) (xs ++ ls) ≡ sum_by (reach z) (ys ++ ms) = λ z.
      let own : reach z x ≡ reach z y = ap (λ r. if is_lt r then 0 else 1) (alike_right total x y z equal) in
      omega (arith, sum_by-cons (reach z) x (xs ++ ls), sum_by-cons (reach z) y (ys ++ ms), own, same z) in
      (equal, alike xs ys ls ms (omega (arith, long)) tails h.1 k.1 f.1 g.1)

  pub only_first : (all : List T) (k : ℕ) (ts us : List T) → AreFirstOf before all k ts → AreFirstOf before all k us → AreAlike order ts us
  only_first all k ts us h j =
      let bag = IsPermutation-trans _ _ _ (IsPermutation-sym _ _ j.first.bag) h.first.bag in
      let long = one-length (length ts) (length us) (length h.left) (length j.left) k (length all)
      (sym (length_permutation _ _ h.first.bag) ∙ length-append ts h.left) (sym (length_permutation _ _ j.first.bag) ∙ length-append us j.left) h.few j.few (λ less. ap length (h.enough less)) (λ less. ap length (j.enough less)) in
      alike ts us h.left j.left long (λ z. sum_by-IsPermutation (reach z) _ _ bag) h.first.order j.first.order h.first.least j.first.least

  pub one-order : (xs ys : List T) → IsPermutation xs ys → AreOrdered before xs → AreOrdered before ys → AreAlike order xs ys
  one-order xs ys bag h k =
      alike xs ys [] [] (sym (length_permutation xs ys bag)) (λ z. rw (append-nil xs, append-nil ys) (sym (sum_by-IsPermutation (reach z) xs ys bag)))
      h k (recursion_from_All _ xs (λ _ _ _. tt)) (recursion_from_All _ ys (λ _ _ _. tt))

  -- the same of a list that may have been refused
  pub only_first_given : {G X : Type 0} (given : G → List T) (all : List T) (k : ℕ) (r : Result G X) → IfOk r (λ found. AreFirstOf before all k (given found))
      → IfOk r (λ found. (other : List T) → AreFirstOf before all k other → AreAlike order (given found) other)
  only_first_given given all k (Ok found) h = λ other j. only_first all k (given found) other h j
  only_first_given given all k (Err e) h = h
