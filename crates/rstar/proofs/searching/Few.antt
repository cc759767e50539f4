-- What the steps of a search for the first few elements keep.
use Rattle.std.proofs.Common.{◌≡◌, inl, inr, ℕ, ◌+◌, ◌<◌, ◌≤◌, ◌<ℤ◌, ◌≤ℤ◌, ℤ, pos, true, false, List, [], ◌∷◌, ◌++◌, length, length-append, map, refl, ap, sym, ◌∙◌, subst, arith, append_assoc, append-nil, Option, Some, None, IfSome, IfNone, MatchOption, Bool, get_or, slice_get, ◌-◌}
use Rattle.std.specs.Borrow.{Bor}
use Rattle.std.specs.Prelude.{option_to_list}
use Rattle.std.specs.Cmp.{IsTotalOrder, IsStrictWeakOrder}
use Rattle.std.specs.List.{AllByRecursion, Contains, insert}
use Rattle.std.specs.List.Sorted.{IsPermutation}
use Rattle.std.specs.Ordering.{is_lt, int_cmp, nat_cmp, ordering_then, flip_args}
use Rattle.std.specs.declared.cmp.Ordering.{Ordering}
use Rattle.std.proofs.HeapSift as sifts
use Rattle.std.proofs.lemmas.Bool.Decides.{nat_tests}
use Rattle.std.proofs.lemmas.Cmp.{back_total, on_total, then_total}
use Rattle.std.proofs.lemmas.Int.{ints}
use Rattle.std.proofs.lemmas.List.{length-map, map_push}
use Rattle.std.proofs.lemmas.List.Elements.{All-from_recursion, All-contains, recursion_from_All}
use Rattle.std.proofs.lemmas.Option.{get_or_from_slice_get, slice_get_within}
use Rattle.std.proofs.lemmas.Simd.{map-map}
use Rattle.std.proofs.Math.Seq.{get_or-append_seam}
use Rattle.std.proofs.lemmas.List.Sorted.{IsPermutation-refl, IsPermutation-trans, IsPermutation-sym, IsPermutation-cons, IsPermutation-append_left, IsPermutation-append_right, IsPermutation-append_comm, IsPermutation-insert, IsPermutation-middle, IsPermutation-map, length_permutation, sum_by_pushed}
use Rattle.std.proofs.lemmas.List.Concat.{flat_map-append}
use Rattle.std.proofs.lemmas.List.Sums.{sum_by-cons}
use Rattle.rstar_base.specs.Envelopes.{Boxes}
use Rattle.rstar_base.specs.Elements.{Objects, Distances}
use Rattle.rstar_base.specs.SmallHeaps.{Rises}
use Rattle.rstar_base.proofs.Along.{IsPermutation-flat_map}
use Rattle.rstar_base.proofs.HeapParts.{all-insert, rises-front}
use Rattle.rstar_base.proofs.Lists.{all-append, all_first, all_second, all_along, all_map, all_both}
use Rattle.rstar.specs.declared.node.RTreeNode.{RTreeNode, Leaf, Parent}
use Rattle.rstar.specs.declared.node.ParentNode.{ParentNode}
use Rattle.rstar.specs.declared.algorithm.nearest_neighbor.few.Kept.{Kept}
use Rattle.rstar.specs.declared.algorithm.nearest_neighbor.few.Kept.TheVariants.{One}
use Rattle.rstar.specs.declared.algorithm.nearest_neighbor.waiting.Waiting.{Waiting}
use Rattle.rstar.specs.inside.Few.{KeepsGreatest, Found, found_elements, kept_in, IsFarthest, IsKept, IsTightened, waiting_parents, AreFoundSoFar}
use Rattle.rstar.specs.Lists.{AreOrdered, AreFirst, AreFirstOf, IsNotLater}
use Rattle.rstar.specs.Nodes.{elements, parents, all_elements, all_parents, children_of}
use Rattle.rstar.specs.inside.Searches.{nearest_on_top}
use Rattle.rstar.proofs.commands.Firsts.{stated_ranks}
use Rattle.rstar.proofs.searching.Nearness.{IsMeasured, IsPart, part-Parent, parts}
use Rattle.rstar.proofs.trees.ByChildren.{elements-Parent, elements-Leaf, parents-Parent}
use Rattle.rstar.proofs.searching.Searches.{no-farther}

-- ---- the last of a list

-- the one that is read at its end
pub last-is : {A : Type 0} (xs front : List A) (last x : A) → Some x ≡ slice_get xs (length xs - 1) → xs ≡ front ++ last ∷ [] → x ≡ last
last-is xs front last x read is =
    let at : length xs - 1 ≡ length front = omega (arith, ap length is, length-append front (last ∷ [])) in
    sym (get_or_from_slice_get xs (length xs - 1) x last (sym read)) ∙ ap (λ k. get_or xs k last) at ∙ ap (λ l. get_or l (length front) last) is ∙ get_or-append_seam front last [] last

pub last-among : {A : Type 0} (xs : List A) (x : A) → Some x ≡ slice_get xs (length xs - 1) → Contains xs x
last-among xs x read = (length xs - 1, slice_get_within xs (length xs - 1) x (sym read), get_or_from_slice_get xs (length xs - 1) x x (sym read))

-- a list without its last item is in order too
pub falls-front : {A : Type 0} (compare : A → A → Ordering) (old front : List A) (r : Option A) → old ≡ front ++ option_to_list r → Rises compare old → Rises compare front
falls-front compare old front None is h = subst (Rises compare) (is ∙ append-nil front) h
falls-front compare old front (Some last) is h = rises-front compare front last (subst (Rises compare) is h)

-- what holds of the last of a list in order holds of all, if it goes over from each to one before it
from-last : {X : Type 0} (R : X → X → Ordering) (P : X → Type 0) → ((x y : X) → is_lt (R y x) ≡ false → P y → P x) → (xs : List X) → Rises R xs → ((front : List X) (last : X) → xs ≡ front ++ last ∷ [] → P last) → AllByRecursion P xs
from-last R P back [] h f = tt
from-last R P back (x ∷ []) h f = (f [] x refl, tt)
from-last R P back (x ∷ y ∷ ys) h f =
    let rest = from-last R P back (y ∷ ys) h.1 (λ front last e. f (x ∷ front) last (ap (λ l. x ∷ l) e)) in
    (back x y h.0.0 rest.0, rest)

pub all-mapped : {X Y : Type 0} (f : X → Y) (P : Y → Type 0) (xs : List X) → AllByRecursion (λ x. P (f x)) xs → AllByRecursion P (map f xs)
all-mapped f P [] h = tt
all-mapped f P (x ∷ xs) h = (h.0, all-mapped f P xs h.1)

-- ---- the first of some elements, and one more

module _ {T : Type 0} (before : T → T → Type 0) where
  -- the first none
  pub first-of-none : (most : ℕ) (all : List T) → most ≡ 0 → AreFirstOf before all most []
  first-of-none most all none = record {
    left = all;
    first = record { bag = IsPermutation-refl all; order = tt; least = tt };
    few = omega arith;
    enough = λ less. absurd (omega (arith, less, none));
  }

  -- their order does not matter
  pub first-along : (most : ℕ) (xs all found : List T) → IsPermutation all xs → AreFirstOf before xs most found → AreFirstOf before all most found
  first-along most xs all found same h = record { left = h.left; first = record { bag = IsPermutation-trans all xs (found ++ h.left) same h.first.bag; order = h.first.order; least = h.first.least }; few = h.few; enough = h.enough }

  -- of a list in order, those in front of the last stand before it
  before-last : (front left : List T) (last : T) → AreOrdered before (front ++ last ∷ []) → AllByRecursion (λ t. AllByRecursion (before t) left) (front ++ last ∷ [])
      → AllByRecursion (λ t. AllByRecursion (before t) (last ∷ left)) front × AllByRecursion (before last) left
  before-last [] left last h k = (tt, k.0)
  before-last (t ∷ front) left last h k =
      let rest = before-last front left last h.1 k.1 in
      ((((all_second (before t) front (last ∷ []) h.0).0, k.0), rest.0), rest.1)

  -- one more, which stands before those that are left
  one-more : (t : T) (seen found left new : List T) → IsPermutation seen (found ++ left) → AllByRecursion (λ u. AllByRecursion (before u) left) (t ∷ found) → IsPermutation (t ∷ found) new → AreOrdered before new → AreFirst before (t ∷ seen) new left
  one-more t seen found left new bag least put order = record {
    bag = IsPermutation-trans _ _ _ (IsPermutation-cons t seen (found ++ left) bag) (IsPermutation-append_left left (t ∷ found) new put);
    order = order;
    least = all_along (λ u. AllByRecursion (before u) left) (t ∷ found) new put least;
  }

  -- some that stand behind all that were found, where these are as many as asked for
  pub first-beyond : (most : ℕ) (ts seen found : List T) → most ≤ length found → AllByRecursion (λ t. AllByRecursion (before t) ts) found → AreFirstOf before seen most found → AreFirstOf before (ts ++ seen) most found
  first-beyond most ts seen found full behind h = record {
    left = ts ++ h.left;
    first = record {
      bag = IsPermutation-trans _ _ _ (IsPermutation-append_right ts seen (found ++ h.left) h.first.bag) (rw (← append_assoc ts found h.left, ← append_assoc found ts h.left) (IsPermutation-append_left h.left (ts ++ found) (found ++ ts) (IsPermutation-append_comm ts found)));
      order = h.first.order;
      least = all_both (λ t. AllByRecursion (before t) ts) (λ t. AllByRecursion (before t) h.left) (λ t. AllByRecursion (before t) (ts ++ h.left)) (λ t f g. all-append (before t) ts h.left f g) found behind h.first.least;
    };
    few = h.few;
    enough = λ less. absurd (omega (arith, full, less));
  }

-- ---- what is kept of a list, and of one more

-- what holds of the old ones and of the new one holds of those that are kept
kept-all : {X : Type 0} (compare : X → X → Ordering) (P : X → Type 0) (most : ℕ) (x : X) (old new : List X) → KeepsGreatest compare most x old new → P x → AllByRecursion P old → AllByRecursion P new
kept-all compare P most x old new (inl in') h k = rw in'.is (all-insert P old in'.place x k h)
kept-all compare P most x old new (inr (inl out)) h k = rw out.is (all-insert P out.front out.place x (all_first P out.front (out.last ∷ []) (subst (AllByRecursion P) out.was k)) h)
kept-all compare P most x old new (inr (inr out)) h k = rw out.is k

-- a full list is as long as before
kept-length : {X : Type 0} (compare : X → X → Ordering) (most : ℕ) (x : X) (old new : List X) → KeepsGreatest compare most x old new → most ≤ length old → length new ≡ length old
kept-length compare most x old new (inl in') full = absurd (omega (arith, in'.room, full))
kept-length compare most x old new (inr (inl out)) full =
    omega (arith, length_permutation (x ∷ out.front) (insert out.front out.place x) (IsPermutation-insert out.front out.place x), ap length out.is, ap length out.was, length-append out.front (out.last ∷ []))
kept-length compare most x old new (inr (inr out)) full = ap length out.is

-- ---- items that were found, in the order of their elements

same-cmp : (a b : ℕ) → int_cmp (pos a) (pos b) ≡ nat_cmp a b
same-cmp a b = grind (arith, nat_tests)

module _ {T S O : Type 0} (value : S → ℤ) (compare : S → S → Ordering) (ties : T → T → Ordering) (order : (a b : S) → compare a b ≡ int_cmp (value a) (value b)) where
  abbrev top : Found T S O → Found T S O → Ordering
  top = nearest_on_top compare ties

  -- the last of a list is the farthest
  pub all-nearer : (us : List (Found T S O)) (s : S) → Rises (flip_args top) us → ((front : List (Found T S O)) (last : Found T S O) → us ≡ front ++ last ∷ [] → value last.distance ≤ℤ value s)
      → AllByRecursion (λ u. value u.distance ≤ℤ value s) us
  all-nearer us s h f = from-last (flip_args top) (λ u. value u.distance ≤ℤ value s) (λ u w near within. omega (arith, ints, no-farther value compare ties order u w near, within)) us h f

  came-in : (w : Found T S O) (us new : List (Found T S O)) (place : ℕ) → new ≡ insert us place w → AllByRecursion (λ u. value w.distance <ℤ value u.distance) new → ⊥
  came-in w us new place is far =
      absurd (omega (arith, ints, (all_along _ _ (w ∷ us) (IsPermutation-sym _ _ (IsPermutation-insert us place w)) (rw is at far)).0))

  -- where one place is for the greatest, what is kept is no farther than what came
  pub one-within : (w : Found T S O) (old : Option (Found T S O)) (new : List (Found T S O)) → KeepsGreatest top 1 w (option_to_list old) new → AllByRecursion (λ u. value w.distance <ℤ value u.distance) new → ⊥
  one-within w old new (inl in') far = came-in w (option_to_list old) new in'.place in'.is far
  one-within w old new (inr (inl out)) far = came-in w out.front new out.place out.is far
  one-within w None new (inr (inr out)) far = let full = out.full in absurd (omega (arith, full))
  one-within w (Some u) new (inr (inr out)) far =
      absurd (omega (arith, ints, no-farther value compare ties order u w (out.not_less [] u refl), (subst (AllByRecursion (λ x. value w.distance <ℤ value x.distance)) out.is far).0))

  module _ (distance : T → ℕ) where
    abbrev IsAt : Found T S O → Type 0
    IsAt w = value w.distance ≡ pos (distance w.node.now)

    -- what is not less stands before
    stands-by : (w u : Found T S O) → IsAt w → IsAt u → is_lt (top w u) ≡ false → IsNotLater distance ties w.node.now u.node.now
    stands-by w u e h k =
        let same : compare u.distance w.distance ≡ nat_cmp (distance u.node.now) (distance w.node.now) =
        order u.distance w.distance ∙ ap (λ z. int_cmp z (value w.distance)) h ∙ ap (int_cmp (pos (distance u.node.now))) e ∙ same-cmp (distance u.node.now) (distance w.node.now) in
        sym (ap (λ o. is_lt (ordering_then o (ties u.node.now w.node.now))) same) ∙ k

    found-ordered : (us : List (Found T S O)) → AllByRecursion IsAt us → Rises (flip_args top) us → AreOrdered (IsNotLater distance ties) (found_elements us)
    found-ordered [] h k = tt
    found-ordered (u ∷ us) h k = (
      all-mapped (λ (w : Found T S O). w.node.now) (IsNotLater distance ties u.node.now) us (all_both IsAt (λ w. is_lt (top u w) ≡ false) (λ w. IsNotLater distance ties u.node.now w.node.now) (λ w at first. stands-by u w h.0 at first) us h.1 k.0),
      found-ordered us h.1 k.1,
    )

    module _ (scalars : IsTotalOrder compare) (total : IsTotalOrder ties) where
      ranks : IsStrictWeakOrder (λ (u w : Found T S O). is_lt (top u w))
      ranks = sifts.ranks (back_total (then_total (on_total (λ (w : Found T S O). w.distance) scalars) (on_total (λ (w : Found T S O). w.node.now) total)))

      -- one more item comes
      pub found-more : (most : ℕ) (w : Found T S O) (old new : List (Found T S O)) (seen : List T) → KeepsGreatest top most w old new → Rises (flip_args top) new → IsAt w → AllByRecursion IsAt old → AllByRecursion IsAt new
          → AreFirstOf (IsNotLater distance ties) seen most (found_elements old) → AreFirstOf (IsNotLater distance ties) (w.node.now ∷ seen) most (found_elements new)
      found-more most w old new seen (inl in') falls e h lie first =
          let room : length (found_elements old) < most = omega (arith, in'.room, length-map old (λ (u : Found T S O). u.node.now)) in
          let put = IsPermutation-map (λ (u : Found T S O). u.node.now) (w ∷ old) new (rw in'.is (IsPermutation-insert old in'.place w)) in
          let long = length_permutation (w.node.now ∷ found_elements old) (found_elements new) put in
          record {
            left = [];
            first = one-more (IsNotLater distance ties) w.node.now seen (found_elements old) [] (found_elements new) (rw (first.enough room) at first.first.bag) (tt, recursion_from_All _ _ (λ _ _ _. tt)) put (found-ordered new lie falls);
            few = omega (arith, long, room);
            enough = λ less. refl;
          }
      -- it takes the place of the last
      found-more most w old new seen (inr (inl out)) falls e h lie first =
          let was : found_elements old ≡ found_elements out.front ++ out.last.node.now ∷ [] = ap found_elements out.was ∙ map_push (λ (u : Found T S O). u.node.now) out.front out.last in
          let moved = subst (AreFirstOf (IsNotLater distance ties) seen most) was first in
          let ahead = before-last (IsNotLater distance ties) (found_elements out.front) moved.left out.last.node.now moved.first.order moved.first.least in
          let last : IsAt out.last = (all_second IsAt out.front (out.last ∷ []) (subst (AllByRecursion IsAt) out.was h)).0 in
          let own = stands-by w out.last e last (ranks.one_way out.last w out.less) in
          let others = all_map (IsNotLater distance ties out.last.node.now) (IsNotLater distance ties w.node.now) (λ u later. (stated_ranks distance total).chain w.node.now out.last.node.now u own later) moved.left ahead.1 in
          let put = IsPermutation-map (λ (u : Found T S O). u.node.now) (w ∷ out.front) new (rw out.is (IsPermutation-insert out.front out.place w)) in
          let long = length_permutation (w.node.now ∷ found_elements out.front) (found_elements new) put in
          let parts = length-append (found_elements out.front) (out.last.node.now ∷ []) in
          let full : most ≤ length (found_elements old) = omega (arith, out.full, length-map old (λ (u : Found T S O). u.node.now)) in
          record {
            left = out.last.node.now ∷ moved.left;
            first = one-more (IsNotLater distance ties) w.node.now seen (found_elements out.front) (out.last.node.now ∷ moved.left) (found_elements new) (subst (IsPermutation seen) (append_assoc (found_elements out.front) (out.last.node.now ∷ []) moved.left) moved.first.bag)
                ((own, others), ahead.0) put (found-ordered new lie falls);
            few = omega (arith, long, parts, moved.few);
            enough = λ less. absurd (omega (arith, long, parts, ap length was, full, less));
          }
      -- it stands behind all
      found-more most w old new seen (inr (inr out)) falls e h lie first =
          let full : most ≤ length (found_elements old) = omega (arith, out.full, length-map old (λ (u : Found T S O). u.node.now)) in
          let not_less = from-last (flip_args top) (λ u. is_lt (top u w) ≡ false) (λ x y near later. ranks.chain x y w near later) old (subst (Rises (flip_args top)) out.is falls) out.not_less in
          let behind = all-mapped (λ (u : Found T S O). u.node.now) (λ t. AllByRecursion (IsNotLater distance ties t) (w.node.now ∷ [])) old (all_both IsAt (λ u. is_lt (top u w) ≡ false) _ (λ u own later. (stands-by u w own e later, tt)) old h not_less) in
          rw out.is (first-beyond (IsNotLater distance ties) most (w.node.now ∷ []) seen (found_elements old) full behind first)

-- ---- one place for the greatest

pub one-falls : {X : Type 0} (compare : X → X → Ordering) (one : Option X) → Rises compare (option_to_list one)
one-falls compare None = tt
one-falls compare (Some x) = (tt, tt)

pub kept-one : {X : Type 0} (compare : X → X → Ordering) (x : X) (old : Option X) (b : Bool) → MatchOption old (b ≡ true) (λ y. b ≡ is_lt (compare y x)) → b ≡ true → KeepsGreatest compare 1 x (option_to_list old) (x ∷ [])
kept-one compare x None b is e = inl record { room = omega arith; place = 0; is = refl }
kept-one compare x (Some y) b is e = inr (inl record { full = omega arith; front = []; last = y; was = refl; less = sym is ∙ e; place = 0; is = refl })

pub kept-in-one : {T S O : Type 0} (value : S → ℤ) (compare : Found T S O → Found T S O → Ordering) (most : ℕ) (w : Found T S O) (bound : Option S) (kept : Kept T S O) (found : Option (Found T S O)) (new : List (Found T S O))
    → kept ≡ One found → IsKept value most bound kept → KeepsGreatest compare 1 w (option_to_list found) new → KeepsGreatest compare most w (kept_in kept) new
kept-in-one value compare most w bound kept found new is fits keeps = let one : most ≡ 1 = rw is at fits in rw (is, one) keeps

-- ---- several places

-- the distance of the last of a full list is a bound, and no greater than the one that was
pub few-tightened : {T S O : Type 0} (value : S → ℤ) (compare : Found T S O → Found T S O → Ordering) (most : ℕ) (w : Found T S O) (old new : List (Found T S O)) (bound limit : Option S)
    → IfSome bound (IsFarthest value most old) → IfSome bound (λ b. value w.distance ≤ℤ value b) → KeepsGreatest compare most w old new → IfSome limit (IsFarthest value most new) → IfNone limit (most ≤ length new → new ≡ []) → IsTightened value bound limit new
few-tightened value compare most w old new None None was within keeps is none = inl refl
few-tightened value compare most w old new (Some b) None was within keeps is none =
    let long = kept-length compare most w old new keeps was.full in
    absurd (omega (arith, long, was.full, was.among.1, ap length (none (omega (arith, long, was.full)))))
few-tightened {T} {S} {O} value compare most w old new bound (Some s) was within keeps is none =
    inr (s, refl, lower bound was within, λ far. absurd (omega (arith, ints, own (λ u. value s <ℤ value u.distance) far, ap value is.at)))
  where
    own : (P : Found T S O → Type 0) → AllByRecursion P new → P is.last
    own P all = All-contains P new is.last (All-from_recursion P new all) is.among

    lower : (bound : Option S) → IfSome bound (IsFarthest value most old) → IfSome bound (λ b. value w.distance ≤ℤ value b) → IfSome bound (λ b. value s ≤ℤ value b)
    lower None was within = tt
    lower (Some b) was within = omega (arith, ints, own (λ u. value u.distance ≤ℤ value b) (kept-all compare (λ u. value u.distance ≤ℤ value b) most w old new keeps within was.within), ap value is.at)

-- ---- what was found, as it is lent

module _ {T S O : Type 0} {lent : List (Bor T × S)} (ws : List (Found T S O)) (is : lent ≡ map (λ (w : Found T S O). (w.node, w.distance)) ws) where
  pub lent-first : {before : T → T → Type 0} {all : List T} {most : ℕ} → AreFirstOf before all most (found_elements ws) → AreFirstOf before all most (map (λ (n : Bor T × S). n.0.now) lent)
  lent-first first = rw (is, map-map) first

  pub lent-all : (P : Bor T × S → Type 0) → AllByRecursion (λ w. P (w.node, w.distance)) ws → AllByRecursion P lent
  lent-all P h = rw is (all-mapped _ P ws h)

-- ---- the nodes that wait

module _ {T E S O : Type 0} {v : Boxes E} {o : Objects T E} {d : Distances T} {p : List ℤ} {compare : T → T → Ordering} {value : S → ℤ} {most : ℕ} {all : List T} where
  -- their order does not matter
  pub so-far-same : {ns ms : List (RTreeNode T E)} {found : List (Found T S O)} → IsPermutation ns ms → AreFoundSoFar v o d p compare value most all ns found → AreFoundSoFar v o d p compare value most all ms found
  so-far-same same s = record { parts = all_along _ _ _ same s.parts; seen = s.seen; bag = IsPermutation-trans _ _ _ s.bag (IsPermutation-append_left s.seen _ _ (IsPermutation-flat_map elements _ _ same)); first = s.first; at = s.at }

  -- where none is left, the first of all were found
  pub so-far-end : {found : List (Found T S O)} → AreFoundSoFar v o d p compare value most all [] found → AreFirstOf (IsNotLater (λ t. d.distance_2 t p) compare) all most (found_elements found)
  so-far-end s = first-along _ most s.seen all _ s.bag s.first

  -- an element was looked at
  pub so-far-leaf : {scalars : S → S → Ordering} (order : (a b : S) → scalars a b ≡ int_cmp (value a) (value b)) (ranked : IsTotalOrder scalars) (total : IsTotalOrder compare) (w : Found T S O) {ns : List (RTreeNode T E)} {old new : List (Found T S O)}
      → value w.distance ≡ pos (d.distance_2 w.node.now p) → KeepsGreatest (nearest_on_top scalars compare) most w old new → Rises (flip_args (nearest_on_top scalars compare)) new
      → AreFoundSoFar v o d p compare value most all (Leaf w.node.now ∷ ns) old → AreFoundSoFar v o d p compare value most all ns new
  so-far-leaf {scalars = scalars} order ranked total w {ns = ns} {old = old} {new = new} lies keeps falls s =
      let here = kept-all (nearest_on_top scalars compare) (λ u. value u.distance ≡ pos (d.distance_2 u.node.now p)) most w old new keeps lies s.at in
      record {
        parts = s.parts.1;
        seen = w.node.now ∷ s.seen;
        bag = IsPermutation-trans _ _ _ (rw (elements-Leaf T E w.node.now) at s.bag) (IsPermutation-sym _ _ (IsPermutation-middle (all_elements ns) w.node.now s.seen));
        first = found-more value scalars compare order (λ t. d.distance_2 t p) ranked total most w old new s.seen keeps falls lies s.at here s.first;
        at = here;
      }

module _ {T E : Type 0} {IsPoint : List ℤ → Type 0} {v : Boxes E} {o : Objects T E} {d : Distances T} {p : List ℤ} (law : IsMeasured IsPoint v o d p) where
  -- a parent is opened
  pub so-far-parent : {S O : Type 0} {compare : T → T → Ordering} {value : S → ℤ} {most : ℕ} {all : List T} (q : ParentNode T E) {ns : List (RTreeNode T E)} {found : List (Found T S O)}
      → AreFoundSoFar v o d p compare value most all (Parent q ∷ ns) found → AreFoundSoFar v o d p compare value most all (ns ++ children_of q) found
  so-far-parent q {ns = ns} h =
      let i = part-Parent law q h.parts.0 in
      so-far-same (IsPermutation-append_comm (children_of q) ns) record {
        parts = all-append (IsPart law) (children_of q) ns (parts law i.0 (children_of q) i.2) h.parts.1;
        seen = h.seen;
        bag = rw (elements-Parent q, ← flat_map-append elements (children_of q) ns) at h.bag;
        first = h.first;
        at = h.at;
      }

-- ---- items of the heap

module _ {T E S O : Type 0} {w : Waiting (Bor (ParentNode T E)) S O} {ws us : List (Waiting (Bor (ParentNode T E)) S O)} (put : IsPermutation (w ∷ ws) us) where
  -- one more parent waits
  pub pushed-nodes : IsPermutation (Parent w.node.now ∷ waiting_parents ws) (waiting_parents us)
  pushed-nodes = IsPermutation-map (λ (u : Waiting (Bor (ParentNode T E)) S O). Parent u.node.now) (w ∷ ws) us put

  pub pushed-parents : all_parents (waiting_parents us) ≡ parents (Parent w.node.now) + all_parents (waiting_parents ws)
  pushed-parents = sum_by_pushed parents (Parent w.node.now) (waiting_parents ws) (waiting_parents us) pushed-nodes

-- no more items wait than parents, those below them included
pub no-more-waiting : {T E S O : Type 0} (ws : List (Waiting (Bor (ParentNode T E)) S O)) → length ws ≤ all_parents (waiting_parents ws)
no-more-waiting [] = omega arith
no-more-waiting (w ∷ ws) = omega (arith, no-more-waiting ws, sum_by-cons parents (Parent w.node.now) (waiting_parents ws), parents-Parent w.node.now)
