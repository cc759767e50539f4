-- The first elements in an order, as the first of all elements in such an order; with their clones.
use Rattle.std.proofs.Common.{◌≡◌, ℕ, ℤ, pos, ◌+◌, ◌<◌, ◌≤◌, ◌⊎◌, inl, inr, List, [], ◌∷◌, ◌++◌, Some, None, refl, ap, sym, ◌∙◌, subst, arith, length, map, take, get_or, slice_get, append-nil}
use Rattle.std.specs.Borrow.{Bor}
use Rattle.std.specs.Cmp.{IsTotalOrder}
use Rattle.std.specs.List.{AllByRecursion}
use Rattle.std.specs.List.Sorted.{IsPermutation}
use Rattle.std.specs.Ordering.{is_lt}
use Rattle.std.specs.declared.cmp.Ordering.{Ordering}
use Rattle.std.proofs.HeapSift as sifts
use Rattle.std.proofs.lemmas.Bool.{cases_lt, cases_Bool}
use Rattle.std.proofs.lemmas.Cmp.{nat_cmp_total, on_total, then_total}
use Rattle.std.proofs.lemmas.List.{nil_from_length, map-append, take_all, take-append-le}
use Rattle.std.proofs.lemmas.List.Sorted.{IsPermutation-refl, IsPermutation-sym, IsPermutation-trans, IsPermutation-cons, IsPermutation-middle, IsPermutation-append_right, Contains-permutation, length_permutation}
use Rattle.std.proofs.lemmas.Simd.{map-map}
use Rattle.rstar_base.proofs.Lists.{all-append, all_along, all_map}
use Rattle.rstar.proofs.lists.Items.{next_item}
use Rattle.rstar.specs.Lists.{AreOrdered, IsLeast, AreFirstOf, IsNotLater, by_distance}
use Rattle.rstar.specs.Steps.{AreFirstWith}

-- ---- every list can be put in an order that ranks any two

-- of any two, one may stand before the other, and what stands before a second stands before a third behind that
pub record Ranks {T : Type 0} (before : T → T → Type 0) : Type 0 where
  pub any_two : (t u : T) → before t u ⊎ before u t
  pub chain : (t u v : T) → before t u → before u v → before t v

module _ {T : Type 0} (distance : T → ℕ) where
  module _ {compare : T → T → Ordering} (total : IsTotalOrder compare) where
    pub stated_total : IsTotalOrder (by_distance distance compare)
    stated_total = then_total (on_total distance nat_cmp_total) total

    pub stated_ranks : Ranks (IsNotLater distance compare)
    stated_ranks = record {
      any_two = λ t u. elim (cases_Bool (is_lt (by_distance distance compare u t))) [ inl e ↦ inr ((sifts.ranks stated_total).one_way u t e) | inr e ↦ inl e ];
      chain = λ t u v h k. (sifts.ranks stated_total).chain v u t k h;
    }

order-append : {T : Type 0} (before : T → T → Type 0) (ts us : List T) → AreOrdered before ts → AreOrdered before us → AllByRecursion (λ t. AllByRecursion (before t) us) ts → AreOrdered before (ts ++ us)
order-append before [] us h k least = k
order-append before (t ∷ ts) us h k least = (all-append (before t) ts us h.0 least.0, order-append before ts us h.1 k least.1)

module _ {T : Type 0} (before : T → T → Type 0) (ranks : Ranks before) where
  -- one element put into a list in order
  placed : (t : T) (us : List T) → AreOrdered before us → (vs : List T) × IsPermutation (t ∷ us) vs × AreOrdered before vs
  placed t [] h = (t ∷ [], IsPermutation-refl _, (tt, tt))
  placed t (u ∷ us) h =
      let rest = placed t us h.1 in
      elim (ranks.any_two t u) [
        | inl first ↦ (t ∷ u ∷ us, IsPermutation-refl _, ((first, all_map (before u) (before t) (λ v k. ranks.chain t u v first k) us h.0), h))
        | inr first ↦ (
          u ∷ rest.0,
          IsPermutation-trans _ _ _ (IsPermutation-middle (t ∷ []) u us) (IsPermutation-cons u (t ∷ us) rest.0 rest.1),
          (all_along (before u) (t ∷ us) rest.0 rest.1 (first, h.0), rest.2),
        )
      ]

  ordered : (ts : List T) → (us : List T) × IsPermutation ts us × AreOrdered before us
  ordered [] = ([], IsPermutation-refl [], tt)
  ordered (t ∷ ts) =
      let rest = ordered ts in
      let one = placed t rest.0 rest.2 in
      (one.0, IsPermutation-trans _ _ _ (IsPermutation-cons t ts rest.0 rest.1) one.1, one.2)

-- ---- so many of them, or all, with their distances

first-taken : {T : Type 0} (k : ℕ) (ts others : List T) → length ts ≤ k → (length ts < k → others ≡ []) → ts ≡ take k (ts ++ others)
first-taken k ts others few enough =
    elim (cases_lt (length ts) k) [
      | inl less ↦ sym (ap (λ l. take k (ts ++ l)) (enough less) ∙ ap (take k) (append-nil ts) ∙ take_all k ts few)
      | inr le ↦ sym (take-append-le k ts others le ∙ take_all k ts few)
    ]

-- ---- their clones

module _ {T S : Type 0} where
  -- an element that is lent, with its distance
  abbrev pub lent : Bor T × S → T × S
  lent n = (n.0.now, n.1)

  -- one clone more
  pub clone-more : (found items : List (Bor T × S)) (k : ℕ) (n : Bor T × S) (t : T) (before after : List (T × S)) → items ≡ found → k < length items → n ≡ get_or items k n → t ≡ n.0.now
      → before ≡ map lent (take k found) → after ≡ before ++ (t, n.1) ∷ [] → after ≡ map lent (take (k + 1) found)
  clone-more found items k n t before after same below is clone was put =
      rw (put, was, next_item found items k n same below is, map-append lent (take k found) (n ∷ [])) (ap (λ (u : T). map lent (take k found) ++ (u, n.1) ∷ []) clone)

  -- the clones of all
  pub clones-whole : (found items : List (Bor T × S)) (k : ℕ) (clones : List (T × S)) → items ≡ found → length items ≤ k → clones ≡ map lent (take k found) → clones ≡ map lent found
  clones-whole found items k clones same ended is = let all : length found ≤ k = rw same at ended in is ∙ ap (map lent) (take_all k found all)

  distances-lent : (distance : T → ℕ) (value : S → ℤ) (ns : List (Bor T × S)) → AllByRecursion (λ n. value n.1 ≡ pos (distance n.0.now)) ns → AllByRecursion (λ (n : T × S). value n.1 ≡ pos (distance n.0)) (map lent ns)
  distances-lent distance value [] h = tt
  distances-lent distance value (n ∷ ns) h = (h.0, distances-lent distance value ns h.1)

-- ---- what is lent, as the first of all

module _ {T S : Type 0} (before : T → T → Type 0) (ranks : Ranks before) (distance : T → ℕ) (value : S → ℤ) (all : List T) where
  pub first-clones : (k : ℕ) (found : List (Bor T × S)) (clones : List (T × S)) → clones ≡ map lent found
      → AreFirstOf before all k (map (λ n. n.0.now) found) → AllByRecursion (λ n. value n.1 ≡ pos (distance n.0.now)) found → AreFirstWith before distance value k all clones
  first-clones k found clones is first at =
      let rest = ordered before ranks first.left in
      let ts = map (λ (n : Bor T × S). n.0.now) found in
      let none : length ts < k → rest.0 ≡ [] = λ less. nil_from_length rest.0 (length_permutation _ _ rest.1 ∙ ap length (first.enough less)) in
      subst (AreFirstWith before distance value k all) (sym is) (record {
        order = ts ++ rest.0;
        bag = IsPermutation-trans _ _ _ first.first.bag (IsPermutation-append_right ts first.left rest.0 rest.1);
        rising = order-append before ts rest.0 first.first.order rest.2
            (all_map _ _ (λ t. all_along (before t) first.left rest.0 rest.1) ts first.first.least);
        first = map-map (λ (n : T × S). n.0) lent found ∙ first-taken k ts rest.0 first.few none;
        distances = distances-lent distance value found at;
      })

  itself : (t : T) → before t t
  itself t = elim (ranks.any_two t t) [ inl h ↦ h | inr h ↦ h ]

  -- the first of those that are lent is the first of all
  pub first-one : (k : ℕ) (found : List (Bor T × S)) (n : Bor T × S) → AreFirstOf before all k (map (λ n. n.0.now) found) → AllByRecursion (λ n. value n.1 ≡ pos (distance n.0.now)) found
      → Some n ≡ slice_get found 0 → IsLeast before all n.0.now × (value n.1 ≡ pos (distance n.0.now))
  first-one k [] n first at is = cc
  first-one k (m ∷ ms) n first at is =
      let same : Some n ≡ Some m = is in
      let one : n ≡ m = cc in
      let others = map (λ (o : Bor T × S). o.0.now) ms in
      let bag = IsPermutation-sym _ _ first.first.bag in
      let head : IsLeast before all m.0.now = record {
        member = Contains-permutation ((m.0.now ∷ others) ++ first.left) all m.0.now bag (0, omega arith, refl);
        least = all_along (before m.0.now) ((m.0.now ∷ others) ++ first.left) all bag
            (all-append (before m.0.now) (m.0.now ∷ others) first.left (itself m.0.now, first.first.order.0) first.first.least.0);
      } in
      subst (λ (o : Bor T × S). IsLeast before all o.0.now × (value o.1 ≡ pos (distance o.0.now))) (sym one) (head, at.0)

-- where none is lent though one was asked for, there is none
pub first-none : {T S : Type 0} (before : T → T → Type 0) (all : List T) (k : ℕ) (found : List (Bor T × S)) → 0 < k → AreFirstOf before all k (map (λ n. n.0.now) found) → None ≡ slice_get found 0 → all ≡ []
first-none before all k [] some first is = nil_from_length all (sym (length_permutation _ _ first.first.bag) ∙ ap length (first.enough some))
first-none before all k (n ∷ ns) some first is = let no : None ≡ Some n = is in cc
