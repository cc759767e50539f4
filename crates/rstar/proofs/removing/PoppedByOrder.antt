-- What lies within the least distance is nearest, and something does; the earliest of it is the first in the stated order, by
-- distance and then by the elements' own.
use Rattle.std.proofs.Common.{◌≡◌, ℕ, ℤ, pos, int_le, ◌≤◌, Bool, true, false, List, [], ◌∷◌, refl, sym, arith, Option, Some, None, IfSome, IfNone, filter, inl, inr}
use Rattle.std.specs.Cmp.{IsTotalOrder}
use Rattle.std.specs.List.{AllByRecursion, Contains}
use Rattle.std.specs.List.Sorted.{IsPermutation}
use Rattle.std.specs.declared.cmp.Ordering.{Ordering}
use Rattle.std.proofs.lemmas.Bool.{both_ways, cases_Bool, true_from_ne_false}
use Rattle.std.proofs.lemmas.List.Elements.{All-contains, All-contains_itself, All-filter, All-from_recursion, filter_passes}
use Rattle.std.proofs.lemmas.List.Sorted.{IsPermutation-sym, Contains-permutation}
use Rattle.rstar_base.proofs.Lists.{all_both}
use Rattle.rstar.specs.inside.Earliest.{earliest}
use Rattle.rstar.specs.Lists.{IsLeast, IsNearest, IsNotAfter, IsNotLater, NoneSelected}
use Rattle.rstar.proofs.searching.ByOrder.{no-later}
use Rattle.rstar.proofs.searching.Nearness.{lower}
use Rattle.rstar.proofs.searching.Ties.{close-by, far-by}
use Rattle.rstar.proofs.removing.Earliest.{earliest-none, earliest-first}
use Rattle.rstar.proofs.removing.Scans.{filter_none}

-- what holds of all that a filter kept
all_kept : {T : Type 0} (p : T → Bool) (Q : T → Type 0) (ts : List T) → AllByRecursion Q (filter p ts) → AllByRecursion (λ t. p t ≡ true → Q t) ts
all_kept p Q [] h = tt
all_kept p Q (t ∷ ts) h = elim (cases_Bool (p t)) [
  | inl is ↦ let all = rw is at h in (λ kept. all.0, all_kept p Q ts all.1)
  | inr is ↦ (λ kept. absurd (both_ways (p t) is kept), all_kept p Q ts (rw is at h))
]

-- what is taken, where x is nearest and the limit is its distance
module _ {T : Type 0} (distance : T → ℕ) (all : List T) (x : T) (near : IsNearest distance all x) (limit : ℤ) (reach : limit ≡ pos (distance x)) where
  abbrev within : T → Bool
  within t = int_le (pos (distance t)) limit

  -- what is within the limit is no farther than x, and what is no farther than x is within it
  no_farther : (t : T) → within t ≡ true → distance t ≤ distance x
  no_farther t is = close-by (pos (distance t)) limit (distance t) (distance x) true refl reach (sym is) refl

  reached : (t : T) → distance t ≤ distance x → within t ≡ true
  reached t le = true_from_ne_false (within t) (λ is.
      let more = far-by (pos (distance t)) limit (distance t) (distance x) false refl reach (sym is) refl in omega (arith, more, le))

  pub popped-nearest : (r : Option T) (rest : List T) → IfSome r (λ t. IsPermutation all (t ∷ rest)) → IfSome r (λ t. within t ≡ true) → IfSome r (IsNearest distance all)
  popped-nearest None rest bag is = tt
  popped-nearest (Some t) rest bag is = record {
    member = Contains-permutation (t ∷ rest) all t (IsPermutation-sym _ _ bag) (0, omega arith, refl);
    least = lower distance (distance t) (distance x) all (no_farther t is) near.least;
  }

  pub popped-some : (r : Option T) → IfNone r (NoneSelected within all) → IfNone r (all ≡ [])
  popped-some None none =
      absurd (both_ways (within x) (All-contains (λ t. within t ≡ false) all x (All-from_recursion _ all none) near.member) (reached x (omega arith)))
  popped-some (Some t) none = tt

  module _ {R : T → T → Ordering} (o : IsTotalOrder R) where
    pub popped-first : (r : Option T) → r ≡ earliest R (filter within all) → IfSome r (IsLeast (IsNotLater distance R) all)
    popped-first None is = tt
    popped-first (Some t) is =
        let first = earliest-first o (filter within all) t (sym is) in
        let le = no_farther t (All-contains (λ u. within u ≡ true) (filter within all) t (filter_passes within all) first.member) in
        record {
          member = All-contains (Contains all) (filter within all) t (All-filter within (Contains all) all (All-contains_itself all)) first.member;
          least = all_both (λ u. distance x ≤ distance u) (λ u. within u ≡ true → IsNotAfter R t u) (IsNotLater distance R t)
              (λ u far tied. no-later distance R t u (omega (arith, far, le)) (λ same. tied (reached u (omega (arith, same, le))))) all near.least (all_kept within (IsNotAfter R t) all first.least);
        }

    pub popped-one : (r : Option T) → r ≡ earliest R (filter within all) → IfNone r (all ≡ [])
    popped-one None is = popped-some None (filter_none within all (earliest-none R (filter within all) (sym is)))
    popped-one (Some t) is = tt
