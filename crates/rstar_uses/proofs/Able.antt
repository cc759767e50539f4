-- The nearest of those that pass a test, as a search gives them.
use Rattle.std.proofs.Common.{◌≡◌, ◌∙◌, ◌&&◌, ℕ, ℤ, ◌<◌, ◌≤◌, Bool, true, false, if◌then◌else◌, List, [], ◌∷◌, ◌++◌, filter, map, length, pos, int_le, Some, Ok, refl, sym, ap, subst, arith}
use Rattle.std.specs.List.{AllByRecursion}
use Rattle.std.specs.List.Sorted.{IsPermutation}
use Rattle.std.proofs.lemmas.Int.{ints}
use Rattle.std.proofs.lemmas.List.{map-append, length-map}
use Rattle.std.proofs.lemmas.List.Sorted.{IsPermutation-trans, IsPermutation-append_right}
use Rattle.rstar_base.proofs.Lists.{all-append, all_along, all_map}
use Rattle.rstar_base.specs.Elements.{Distances}
use Rattle.rstar_base.specs.Envelopes.{Boxes}
use Rattle.rstar_base.specs.Points.{table}
use Rattle.rstar.specs.Lists.{AreFirst, AreNearestOf, IsNoFarther}
use Rattle.rstar.specs.Neighbors.{Search, GivesNeighbor, elements_waiting}
use Rattle.rstar.proofs.searching.InOrder.{none-first, more-first}
use Rattle.rstar.proofs.searching.Ties.{filter-along}

module _ {T : Type 0} (far : T → ℕ) (limit : ℤ) (able : T → Bool) where
  -- whether it is given
  abbrev pub passes : T → Bool
  passes t = able t && int_le (pos (far t)) limit

  -- those given of all, and those of what waits
  pub record HasFound (all given waiting : List T) : Type 0 where
    pub are : AreFirst (IsNoFarther far) (filter passes all) given (filter passes waiting)

  filter-all : (P : T → Type 0) (ts : List T) → AllByRecursion P ts → AllByRecursion P (filter passes ts)
  filter-all P [] h = h
  filter-all P (t ∷ ts) h = by (passes t) (filter-all P ts h.1)
    where
      by : (b : Bool) → AllByRecursion P (filter passes ts) → AllByRecursion P (if b then t ∷ filter passes ts else filter passes ts)
      by true rest = (h.0, rest)
      by false rest = rest

  pub none-found : {N : Type 0} (seen : N → T) (all : List T) (none : List N) → none ≡ [] → HasFound all (map seen none) all
  none-found seen all none is = subst (λ ns. HasFound all (map seen ns) all) (sym is) (record { are = none-first _ (filter passes all) })

  -- one that passes
  pub one-found : {N : Type 0} (seen : N → T) (all : List T) (given more : List N) (n : N) (waiting after : List T) → more ≡ given ++ n ∷ [] → HasFound all (map seen given) waiting → IsPermutation waiting (seen n ∷ after)
      → AllByRecursion (IsNoFarther far (seen n)) after → able (seen n) ≡ true → int_le (pos (far (seen n))) limit ≡ true → HasFound all (map seen more) after
  one-found seen all given more n waiting after pushed found bag least is near =
      subst (λ ts. HasFound all ts after) (sym (ap (map seen) pushed ∙ map-append seen given (n ∷ [])))
      (record { are = more-first _ _ _ _ (filter passes after) t found.are (by (passes t) (both (able t) _ is near) (filter-along passes waiting (t ∷ after) bag)) (filter-all _ after least) })
    where
      t : T
      t = seen n

      both : (a b : Bool) → a ≡ true → b ≡ true → (a && b) ≡ true
      both a b e f = cc

      by : (b : Bool) → b ≡ true → IsPermutation (filter passes waiting) (if b then t ∷ filter passes after else filter passes after) → IsPermutation (filter passes waiting) (t ∷ filter passes after)
      by true e h = h
      by false e h = cc

  -- one that fails
  failed : (all given waiting after : List T) (t : T) → HasFound all given waiting → IsPermutation waiting (t ∷ after) → passes t ≡ false → HasFound all given after
  failed all given waiting after t found bag fails = record {
    are = along _ _ (by (passes t) fails (filter-along passes waiting (t ∷ after) bag)) found.are;
  }
    where
      by : (b : Bool) → b ≡ false → IsPermutation (filter passes waiting) (if b then t ∷ filter passes after else filter passes after) → IsPermutation (filter passes waiting) (filter passes after)
      by true e h = cc
      by false e h = h

      along : (left more : List T) → IsPermutation left more → AreFirst (IsNoFarther far) (filter passes all) given left → AreFirst (IsNoFarther far) (filter passes all) given more
      along left more same are = record {
        bag = IsPermutation-trans _ _ _ are.bag (IsPermutation-append_right given left more same);
        order = are.order;
        least = all_map _ _ (λ u. all_along _ left more same) given are.least;
      }

  pub passed-over : (all given waiting after : List T) (t : T) → HasFound all given waiting → IsPermutation waiting (t ∷ after) → able t ≡ false → HasFound all given after
  passed-over all given waiting after t found bag isnt = failed all given waiting after t found bag (either (able t) _ isnt)
    where
      either : (a b : Bool) → a ≡ false → (a && b) ≡ false
      either true b e = cc
      either false b e = refl

  -- where one is too far, so are all that wait behind it
  too-far : (after : List T) (t : T) → AllByRecursion (IsNoFarther far t) after → int_le (pos (far t)) limit ≡ false → filter passes after ≡ []
  too-far [] t least far_off = refl
  too-far (u ∷ after) t least far_off = by (able u) (int_le (pos (far u)) limit) (beyond (far t) (far u) least.0 far_off) (too-far after t least.1 far_off)
    where
      beyond : (m n : ℕ) → m ≤ n → int_le (pos m) limit ≡ false → int_le (pos n) limit ≡ false
      beyond m n le e = grind (arith, ints)

      by : (a b : Bool) → b ≡ false → filter passes after ≡ [] → (if a && b then u ∷ filter passes after else filter passes after) ≡ []
      by true true e h = cc
      by true false e h = h
      by false b e h = h

  -- the search may end: so many were found, none waits, or the next is too far
  module _ {N : Type 0} (seen : N → T) (all : List T) (given : List N) (waiting : List T) (most : ℕ) (found : HasFound all (map seen given) waiting) (few : length given ≤ most) where
    ended : (left : List T) → HasFound all (map seen given) left → (length given < most → filter passes left ≡ []) → AreNearestOf far (filter passes all) most (map seen given)
    ended left are enough = record {
      left = filter passes left;
      first = are.are;
      few = subst (λ n. n ≤ most) (sym (length-map given seen)) few;
      enough = λ less. enough (subst (λ n. n < most) (length-map given seen) less);
    }

    pub found-full : most ≤ length given → AreNearestOf far (filter passes all) most (map seen given)
    found-full full = ended waiting found (λ less. absurd (omega (arith, full, less)))

    pub found-all : waiting ≡ [] → AreNearestOf far (filter passes all) most (map seen given)
    found-all none = ended waiting found (λ less. ap (filter passes) none)

    pub found-near : (after : List T) (t : T) → IsPermutation waiting (t ∷ after) → AllByRecursion (IsNoFarther far t) after → int_le (pos (far t)) limit ≡ false → AreNearestOf far (filter passes all) most (map seen given)
    found-near after t bag least far_off = ended after (failed all (map seen given) waiting after t found bag (either (able t) _ far_off)) (λ less. too-far after t least far_off)
      where
        either : (a b : Bool) → b ≡ false → (a && b) ≡ false
        either true b e = e
        either false b e = refl

-- the search began at a place and over a list
pub begun-at : {T P : Type 0} (far : P → T → ℕ) (able : T → Bool) (l limit : ℤ) (p at : P) (waiting now : List T) (most : ℕ) (given : List T) → l ≡ limit → p ≡ at → waiting ≡ now
    → AreNearestOf (far p) (filter (passes (far p) l able) waiting) most given → AreNearestOf (far at) (filter (passes (far at) limit able) now) most given
begun-at far able l limit p at waiting now most given is same are nearest =
    subst (λ q. AreNearestOf (far q) (filter (passes (far q) limit able) now) most given) same
    (subst (λ ts. AreNearestOf (far p) (filter (passes (far p) limit able) ts) most given) are
    (subst (λ m. AreNearestOf (far p) (filter (passes (far p) m able) waiting) most given) is nearest))

pub told-at : {T P N : Type 0} (far : P → T → ℕ) (value : N → ℤ) (seen : N → T) (p at : P) (given : List N) → p ≡ at → AllByRecursion (λ n. value n ≡ pos (far p (seen n))) given → AllByRecursion (λ n. value n ≡ pos (far at (seen n))) given
told-at far value seen p at given same told = subst (λ q. AllByRecursion (λ n. value n ≡ pos (far q (seen n))) given) same told

-- one more is told of
pub one-told : {N : Type 0} (P : N → Type 0) (given more : List N) (n : N) → more ≡ given ++ n ∷ [] → AllByRecursion P given → P n → AllByRecursion P more
one-told P given more n pushed are is = subst (AllByRecursion P) (sym pushed) (all-append P given (n ∷ []) are (is, tt))

-- a call of `next` that gave an element, told from the point where the search began
module _ {T P : Type 0} (d : Distances T) (axes : ℕ) (coord : P → ℕ → ℤ) (at : P) where
  abbrev away : P → T → ℕ
  away p t = d.distance_2 t (table axes (coord p))

  pub came : {E A Z : Type 0} (v : Boxes E) (element : A → T) (y : A) (old new : Search T E P) → old.point ≡ at → GivesNeighbor {Z = Z} v d axes coord element old (Some (Ok y)) new
      → IsPermutation (elements_waiting old) (element y ∷ elements_waiting new) × AllByRecursion (IsNoFarther (away at) (element y)) (elements_waiting new)
  came v element y old new same step = (step.gives.bag, subst (λ p. AllByRecursion (IsNoFarther (away p) (element y)) (elements_waiting new)) same step.gives.least)

  -- what a comparison with the limit says of its distance
  pub reaches : (value limit : ℤ) (answer b : Bool) (p : P) (t : T) → p ≡ at → value ≡ pos (away p t) → answer ≡ int_le value limit → answer ≡ b → int_le (pos (away at t)) limit ≡ b
  reaches value limit answer b p t same is so e = subst (λ q. int_le (pos (away q t)) limit ≡ b) same (ap (λ z. int_le z limit) (sym is) ∙ sym so ∙ e)
