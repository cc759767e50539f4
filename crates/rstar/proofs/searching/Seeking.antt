-- What the steps of a search for the first few elements keep, with what they cut, and what it gives at its end.
use Rattle.std.proofs.Common.{◌≡◌, inl, inr, ℕ, ◌<◌, ◌≤◌, ◌<ℤ◌, ℤ, pos, int_lt, false, List, [], ◌∷◌, ◌++◌, length, refl, ap, sym, ◌∙◌, subst, arith, Option, Some, None, IfSome, MatchOption, ◌≤ℤ◌, append_assoc, append-nil, All}
use Rattle.std.proofs.lemmas.Bool.{cases_cond}
use Rattle.std.proofs.lemmas.Bool.Decides.{leb_tells}
use Rattle.std.specs.Borrow.{Bor}
use Rattle.std.specs.List.{AllByRecursion}
use Rattle.std.specs.List.Sorted.{IsPermutation}
use Rattle.std.specs.Int.{int_min}
use Rattle.std.specs.Ordering.{is_lt, int_cmp}
use Rattle.std.specs.declared.cmp.Ordering.{Ordering}
use Rattle.std.proofs.lemmas.Int.{ints, int_min_is, by_lt_z}
use Rattle.std.proofs.lemmas.List.{length-map, nil_from_length}
use Rattle.std.proofs.lemmas.List.Sums.{sum_by-append}
use Rattle.std.proofs.lemmas.List.Sorted.{IsPermutation-refl, IsPermutation-trans, IsPermutation-sym, IsPermutation-map, IsPermutation-append_left, IsPermutation-append_comm, Contains-permutation, length_permutation}
use Rattle.std.proofs.lemmas.List.Elements.{All-from_recursion, All-contains, recursion_from_All}
use Rattle.rstar_base.specs.Envelopes.{Boxes}
use Rattle.rstar_base.specs.Elements.{Objects, Distances}
use Rattle.rstar_base.specs.SmallHeaps.{Held, items_of}
use Rattle.rstar_base.proofs.Lists.{all-append, all_first, all_second, all_along, all_map, all_both}
use Rattle.rstar.specs.declared.algorithm.nearest_neighbor.few.Best.{Best}
use Rattle.rstar.specs.declared.algorithm.nearest_neighbor.few.Kept.{Kept}
use Rattle.rstar.specs.declared.algorithm.nearest_neighbor.few.Kept.TheVariants.{One, Few}
use Rattle.rstar.specs.declared.algorithm.nearest_neighbor.waiting.Waiting.{Waiting}
use Rattle.rstar.specs.declared.node.RTreeNode.{RTreeNode, Parent}
use Rattle.rstar.specs.declared.node.ParentNode.{ParentNode}
use Rattle.rstar.specs.Nodes.{elements, parents, all_elements, all_parents, node_box, children_of, elements_of, envelope_of, IsWhole}
use Rattle.rstar.specs.Lists.{AreFirstOf, IsNearest, IsNotLater}
use Rattle.rstar.specs.inside.Few.{Found, found_elements, kept_in, waiting_parents, AreFoundSoFar, IsAbove, IsBound, IsKept, IsLowered, IsSeeking, IsTightened, Visits, WaitAtDistance}
use Rattle.rstar.specs.inside.Searches.{any_first, distance_of, nearest_on_top}
use Rattle.rstar.proofs.searching.ByOrder.{later-far, no-nearer}
use Rattle.rstar.proofs.searching.Few.{all-mapped, first-along, first-beyond, so-far-same, so-far-end}
use Rattle.rstar.proofs.searching.InOrder.{none-first}
use Rattle.rstar.proofs.searching.Nearness.{IsMeasured, above-node, node-within, root-below, root-within}
use Rattle.rstar.proofs.searching.Searches.{no-farther}

-- ---- limits of a list's numbers

over : {X : Type 0} (f : X → ℕ) (m : ℤ) (n : ℕ) (xs : List X) → m <ℤ pos n → AllByRecursion (λ x. n ≤ f x) xs → AllByRecursion (λ x. m <ℤ pos (f x)) xs
over f m n xs le = all_map (λ x. n ≤ f x) (λ x. m <ℤ pos (f x)) (λ x h. omega (arith, ints, le, h)) xs

below : {X : Type 0} (f : X → ℕ) (m n : ℤ) (xs : List X) → m ≤ℤ n → AllByRecursion (λ x. n <ℤ pos (f x)) xs → AllByRecursion (λ x. m <ℤ pos (f x)) xs
below f m n xs le = all_map (λ x. n <ℤ pos (f x)) (λ x. m <ℤ pos (f x)) (λ x h. omega (arith, ints, le, h)) xs

-- ---- what is sought

module _ {T E S O : Type 0} {v : Boxes E} {o : Objects T E} {d : Distances T} {p : List ℤ} {compare : T → T → Ordering} {value : S → ℤ} {most : ℕ} {all : List T} {bound : Option S} where
  -- a step that cuts nothing
  pub seek-step : {ns ms : List (RTreeNode T E)} {old new : List (Found T S O)} → ((left : List T) → AreFoundSoFar v o d p compare value most left ns old → AreFoundSoFar v o d p compare value most left ms new)
      → IsSeeking v o d p compare value most all ns bound old → IsSeeking v o d p compare value most all ms bound new
  seek-step more s = record { left = s.left; cut = s.cut; bag = s.bag; bounded = s.bounded; so_far = more s.left s.so_far }

  -- their order does not matter
  pub seek-same : {ns ms : List (RTreeNode T E)} {found : List (Found T S O)} → IsPermutation ns ms → IsSeeking v o d p compare value most all ns bound found → IsSeeking v o d p compare value most all ms bound found
  seek-same same = seek-step (λ left. so-far-same same)

  -- a parent is taken out of the heap
  pub seek-popped : {Y : Type 0} {w : Waiting (Bor (ParentNode T E)) S Y} {ws us : List (Waiting (Bor (ParentNode T E)) S Y)} {found : List (Found T S O)} → IsPermutation ws (w ∷ us)
      → IsSeeking v o d p compare value most all (waiting_parents ws) bound found → IsSeeking v o d p compare value most all (Parent w.node.now ∷ waiting_parents us) bound found
  seek-popped {Y} {w = w} {ws = ws} {us = us} popped = seek-same (IsPermutation-map (λ (u : Waiting (Bor (ParentNode T E)) S Y). Parent u.node.now) ws (w ∷ us) popped)

-- one visit after another
pub visits-more : {S T E O Y : Type 0} {scalars : S → S → Ordering} {compare : T → T → Ordering} {value : S → ℤ} {most : ℕ} {v : Boxes E} {o : Objects T E} {d : Distances T} {p : List ℤ} {heap mid heap' : Held (Waiting (Bor (ParentNode T E)) S Y)} {old between new : Best T S O} {xs ys zs : List (RTreeNode T E)}
    → Visits scalars compare value most v o d p xs heap old mid between → Visits scalars compare value most v o d p ys mid between heap' new → zs ≡ xs ++ ys → Visits scalars compare value most v o d p zs heap old heap' new
visits-more {xs = xs} {ys = ys} a b is = record {
  ordered = b.ordered;
  best = b.best;
  same = b.same ∙ a.same;
  waiting = λ before. b.waiting (a.waiting before);
  fewer = omega (arith, a.fewer, b.fewer, ap all_parents is, sum_by-append parents xs ys);
  first = λ all rest s. b.first all rest (a.first all (ys ++ rest) (rw (is, append_assoc xs ys rest) at s));
}

-- where no others are left
pub visits-all : {S T E O Y : Type 0} {scalars : S → S → Ordering} {compare : T → T → Ordering} {value : S → ℤ} {most : ℕ} {v : Boxes E} {o : Objects T E} {d : Distances T} {p : List ℤ} {heap heap' : Held (Waiting (Bor (ParentNode T E)) S Y)} {old new : Best T S O} {nodes : List (RTreeNode T E)}
    → Visits scalars compare value most v o d p nodes heap old heap' new → (all : List T) → IsSeeking v o d p compare value most all (waiting_parents (items_of heap) ++ nodes) old.bound (kept_in old.kept) → IsSeeking v o d p compare value most all (waiting_parents (items_of heap')) new.bound (kept_in new.kept)
visits-all {heap' = heap'} {nodes = nodes} visits all s = rw (append-nil (waiting_parents (items_of heap'))) at (visits.first all [] (rw (append-nil nodes) s))

-- before a child is asked, no element was seen, and none was cut
pub seek-start : {T E S O Y : Type 0} {v : Boxes E} {o : Objects T E} {d : Distances T} {p : List ℤ} {compare : T → T → Ordering} {value : S → ℤ} {most : ℕ} {root : ParentNode T E} {ws : List (Waiting (Bor (ParentNode T E)) S Y)} {bound : Option S} {found : List (Found T S O)}
    → ws ≡ [] → found ≡ [] → bound ≡ None → IsWhole v o root → IsSeeking v o d p compare value most (elements_of root) (waiting_parents ws ++ children_of root) bound found
seek-start {root = root} none new unbound whole = rw (none, new, unbound) record {
  left = elements_of root;
  cut = [];
  bag = rw append-nil (IsPermutation-refl (elements_of root));
  bounded = refl;
  so_far = record {
    parts = all_map _ _ (λ n w. (whole.height, w)) (children_of root) whole.below;
    seen = [];
    bag = rw append-nil (IsPermutation-refl (elements_of root));
    first = record { left = []; first = none-first _ []; few = omega arith; enough = λ less. refl };
    at = tt;
  };
}

module _ {T E : Type 0} {IsPoint : List ℤ → Type 0} {v : Boxes E} {o : Objects T E} {d : Distances T} {p : List ℤ} (law : IsMeasured IsPoint v o d p) {S O : Type 0} {compare : T → T → Ordering} {value : S → ℤ} {most : ℕ} {all : List T} where
  -- a bound is made or lowered, and not all that is left lies above it
  seek-bounded : {ns : List (RTreeNode T E)} {found : List (Found T S O)} (old : Option S) (x : S) (s : IsSeeking v o d p compare value most all ns old found) → IfSome old (λ b. value x ≤ℤ value b)
      → (AllByRecursion (λ t. value x <ℤ pos (d.distance_2 t p)) s.left → ⊥) → IsSeeking v o d p compare value most all ns (Some x) found
  seek-bounded old x s less some = record { left = s.left; cut = s.cut; bag = s.bag; bounded = record { above = above old less s.bounded; within = some }; so_far = s.so_far }
    where
      above : (old : Option S) → IfSome old (λ b. value x ≤ℤ value b) → MatchOption old (s.cut ≡ []) (λ b. IsBound (λ t. d.distance_2 t p) s.left s.cut (value b)) → AllByRecursion (λ t. value x <ℤ pos (d.distance_2 t p)) s.cut
      above None less none = subst (AllByRecursion (λ t. value x <ℤ pos (d.distance_2 t p))) (sym none) tt
      above (Some b) less h = below (λ t. d.distance_2 t p) (value x) (value b) s.cut less h.above

  -- where a bound is lowered to the min-max distance of a node that is left, an element that is left is within it
  pub seek-lowered : {n : RTreeNode T E} {ns : List (RTreeNode T E)} {found : List (Found T S O)} (old : Option S) {new : Option S} → IsLowered value (v.min_max_dist_2 (node_box o.box_of n) p) old new
      → IsSeeking v o d p compare value most all (n ∷ ns) old found → IsSeeking v o d p compare value most all (n ∷ ns) new found
  seek-lowered old (inl same) s = rw same s
  seek-lowered {n = n} {ns = ns} old (inr (x, is, by)) s = let both = lowered old by s.bounded in rw is (seek-bounded old x s both.0 both.1)
    where
      reach : ℕ
      reach = v.min_max_dist_2 (node_box o.box_of n) p

      some : AllByRecursion (λ t. pos reach <ℤ pos (d.distance_2 t p)) s.left → ⊥
      some far = node-within law n s.so_far.parts.0 _ (omega arith)
          (all_map (λ t. pos reach <ℤ pos (d.distance_2 t p)) (λ t. reach < d.distance_2 t p) (λ t h. omega (arith, ints, h)) (elements n)
          (all_first _ (elements n) (all_elements ns) (all_first _ (all_elements (n ∷ ns)) s.so_far.seen (all_along _ _ _ s.so_far.bag far))))

      lowered : (old : Option S) → MatchOption old (value x ≡ pos reach) (λ b. value x ≡ int_min (value b) (pos reach)) → MatchOption old (s.cut ≡ []) (λ b. IsBound (λ t. d.distance_2 t p) s.left s.cut (value b))
          → IfSome old (λ b. value x ≤ℤ value b) × (AllByRecursion (λ t. value x <ℤ pos (d.distance_2 t p)) s.left → ⊥)
      lowered None same none = (tt, rw same some)
      lowered (Some b) is h =
          let within : AllByRecursion (λ t. value x <ℤ pos (d.distance_2 t p)) s.left → ⊥ =
          elim (cases_cond (int_lt (pos reach) (value b)) (pos reach) (value b) (value x) is) [ inl same ↦ rw same some | inr same ↦ rw same h.within ] in
          (omega (arith, ints, is, int_min_is (value b) (pos reach)), within)

  -- a node above the bound is cut
  pub seek-cut : {n : RTreeNode T E} {ns : List (RTreeNode T E)} {found : List (Found T S O)} (bound : Option S) → IsAbove value bound (distance_of v d p n) → IsSeeking v o d p compare value most all (n ∷ ns) bound found → IsSeeking v o d p compare value most all ns bound found
  seek-cut None is s = absurd is
  seek-cut {n = n} {ns = ns} (Some b) is s =
      let far : AllByRecursion (λ t. value b <ℤ pos (d.distance_2 t p)) (elements n) = over (λ t. d.distance_2 t p) (value b) _ (elements n) is (above-node law n s.so_far.parts.0) in
      let rest = all_elements ns ++ s.so_far.seen in
      let parted : IsPermutation s.left (elements n ++ rest) = rw (append_assoc (elements n) (all_elements ns) s.so_far.seen) at s.so_far.bag in
      record {
        left = rest;
        cut = elements n ++ s.cut;
        bag = rw (← append_assoc rest (elements n) s.cut) (IsPermutation-trans _ _ _ s.bag (IsPermutation-append_left s.cut _ _ (IsPermutation-trans _ _ _ parted (IsPermutation-append_comm (elements n) rest))));
        bounded = record {
          above = all-append _ (elements n) s.cut far s.bounded.above;
          within = λ others. s.bounded.within (all_along _ _ _ (IsPermutation-sym _ _ parted) (all-append _ (elements n) rest far others));
        };
        so_far = record { parts = s.so_far.parts.1; seen = s.so_far.seen; bag = IsPermutation-refl rest; first = s.so_far.first; at = s.so_far.at };
      }

  -- a bound is lowered, and not all that were found lie above it
  pub seek-tightened : {ns : List (RTreeNode T E)} {found : List (Found T S O)} (old : Option S) {new : Option S} → IsTightened value old new found → IsSeeking v o d p compare value most all ns old found → IsSeeking v o d p compare value most all ns new found
  seek-tightened old (inl same) s = rw same s
  seek-tightened {ns = ns} {found = found} old (inr (x, is, less, some)) s = rw is (seek-bounded old x s less within)
    where
      lying : (us : List (Found T S O)) → AllByRecursion (λ w. value w.distance ≡ pos (d.distance_2 w.node.now p)) us → AllByRecursion (λ t. value x <ℤ pos (d.distance_2 t p)) (found_elements us) → AllByRecursion (λ w. value x <ℤ value w.distance) us
      lying [] at far = tt
      lying (u ∷ us) at far = (subst (λ z. value x <ℤ z) (sym at.0) far.0, lying us at.1 far.1)

      within : AllByRecursion (λ t. value x <ℤ pos (d.distance_2 t p)) s.left → ⊥
      within far =
          let seen = all_second _ (all_elements ns) s.so_far.seen (all_along _ _ _ s.so_far.bag far) in
          some (lying found s.so_far.at (all_first _ (found_elements found) s.so_far.first.left (all_along _ _ _ s.so_far.first.first.bag seen)))

  -- so are all parents that wait
  seek-all-cut : {Y : Type 0} (ws : List (Waiting (Bor (ParentNode T E)) S Y)) {found : List (Found T S O)} (bound : Option S) → AllByRecursion (λ w. IsAbove value bound (distance_of v d p (Parent w.node.now))) ws
      → IsSeeking v o d p compare value most all (waiting_parents ws) bound found → IsSeeking v o d p compare value most all [] bound found
  seek-all-cut [] bound above s = s
  seek-all-cut (w ∷ ws) bound above s = seek-all-cut ws bound above.1 (seek-cut bound above.0 s)

  -- where nothing is sought at the distance of the parent that the heap gives, none is sought at those of the others
  pub seek-stops : {scalars : S → S → Ordering} (order : (a b : S) → scalars a b ≡ int_cmp (value a) (value b)) {Y : Type 0} (ties : ParentNode T E → ParentNode T E → Ordering) {w : Waiting (Bor (ParentNode T E)) S Y} {ws us : List (Waiting (Bor (ParentNode T E)) S Y)} {found : List (Found T S O)} {bound : Option S}
      → IsPermutation ws (w ∷ us) → All (λ u. is_lt (nearest_on_top scalars ties w u) ≡ false) us → WaitAtDistance v d p value ws → ((m : ℕ) → value w.distance ≡ pos m → IsAbove value bound m)
      → IsSeeking v o d p compare value most all (waiting_parents ws) bound found → IsSeeking v o d p compare value most all [] bound found
  seek-stops {scalars = scalars} order {Y = Y} ties {w = w} {us = us} {bound = bound} popped greatest waiting above s =
      let at = all_along _ _ _ popped waiting in
      let others = all_both (λ (u : Waiting (Bor (ParentNode T E)) S Y). value u.distance ≡ pos (distance_of v d p (Parent u.node.now))) (λ u. is_lt (nearest_on_top scalars ties w u) ≡ false) (λ u. IsAbove value bound (distance_of v d p (Parent u.node.now)))
      (λ u own least. farther (omega (arith, ints, no-farther value scalars ties order w u least, at.0, own)) bound (above _ at.0)) us at.1 (recursion_from_All _ us greatest) in
      seek-all-cut (w ∷ us) bound (above _ at.0, others) (seek-popped popped s)
    where
      farther : {m k : ℕ} → m ≤ k → (bound : Option S) → IsAbove value bound m → IsAbove value bound k
      farther le None is = is
      farther le (Some b) is = omega (arith, ints, le, is)

-- ---- where no node is left

module _ {T E S O : Type 0} {v : Boxes E} {o : Objects T E} {d : Distances T} {p : List ℤ} {compare : T → T → Ordering} {value : S → ℤ} {most : ℕ} {all : List T} where
  -- what was cut stands behind those that were found, as many as asked for, within the bound
  seek-full : {b : S} {found : List (Found T S O)} (s : IsSeeking v o d p compare value most all [] (Some b) found) → most ≤ length found → AllByRecursion (λ w. value w.distance ≤ℤ value b) found
      → AreFirstOf (IsNotLater (λ t. d.distance_2 t p) compare) all most (found_elements found)
  seek-full {b = b} {found = found} s full near =
      let before = IsNotLater (λ (t : T). d.distance_2 t p) compare in
      let behind = all-mapped (λ (w : Found T S O). w.node.now) (λ t. AllByRecursion (before t) s.cut) found
      (all_both (λ (w : Found T S O). value w.distance ≡ pos (d.distance_2 w.node.now p)) (λ w. value w.distance ≤ℤ value b) (λ w. AllByRecursion (before w.node.now) s.cut)
      (λ w own within. all_map (λ t. value b <ℤ pos (d.distance_2 t p)) (before w.node.now) (λ t far. later-far (λ t. d.distance_2 t p) compare w.node.now t (omega (arith, ints, own, within, far))) s.cut s.bounded.above) found s.so_far.at near) in
      first-along before most (s.cut ++ s.left) all (found_elements found) (IsPermutation-trans _ _ _ s.bag (IsPermutation-append_comm s.left s.cut))
      (first-beyond before most s.cut s.left (found_elements found) (omega (arith, full, length-map found (λ (w : Found T S O). w.node.now))) behind (so-far-end s.so_far))

  -- those found are the first of all
  pub seek-end : (bound : Option S) (kept : Kept T S O) → IsKept value most bound kept → IsSeeking v o d p compare value most all [] bound (kept_in kept) → AreFirstOf (IsNotLater (λ t. d.distance_2 t p) compare) all most (found_elements (kept_in kept))
  seek-end None kept is s = let uncut : s.cut ≡ [] = s.bounded in first-along _ most s.left all _ (rw (uncut, append-nil s.left) at s.bag) (so-far-end s.so_far)
  seek-end (Some b) (Few ws) is s = seek-full s is.full is.within
  seek-end (Some b) (One None) is s =
      let first = so-far-end s.so_far in
      absurd (s.bounded.within (all_along _ _ s.left (IsPermutation-sym _ _ (rw (first.enough (omega (arith, is))) at first.first.bag)) tt))
  seek-end (Some b) (One (Some x)) is s = seek-full s (omega (arith, is)) (by_lt_z (value b) (value x.distance) (λ more. absurd (s.bounded.within (all_along _ _ s.left (IsPermutation-sym _ _ first.first.bag) (above more, over (λ t. d.distance_2 t p) (value b) (d.distance_2 x.node.now p) first.left (above more) nearer)))) (λ le. le), tt)
    where
      first : AreFirstOf (IsNotLater (λ t. d.distance_2 t p) compare) s.left most (x.node.now ∷ [])
      first = so-far-end s.so_far

      nearer : AllByRecursion (λ u. d.distance_2 x.node.now p ≤ d.distance_2 u p) first.left
      nearer = all_map _ _ (no-nearer (λ t. d.distance_2 t p) compare x.node.now) first.left first.first.least.0

      above : value b <ℤ value x.distance → value b <ℤ pos (d.distance_2 x.node.now p)
      above more = subst (λ z. value b <ℤ z) s.so_far.at.0 more

-- ---- one element

module _ {T : Type 0} (all : List T) where
  pub first-none : {before : T → T → Type 0} → AreFirstOf before all 1 [] → all ≡ []
  first-none h = nil_from_length all (sym (length_permutation _ _ h.first.bag) ∙ ap length (h.enough (omega arith)))

  pub first-nearest : (distance : T → ℕ) (t : T) → AreFirstOf (IsNotLater distance any_first) all 1 (t ∷ []) → IsNearest distance all t
  first-nearest distance t h = record {
    member = Contains-permutation (t ∷ h.left) all t (IsPermutation-sym _ _ h.first.bag) (0, omega arith, refl);
    least = all_along _ (t ∷ h.left) all (IsPermutation-sym _ _ h.first.bag) (omega arith, all_map _ _ (no-nearer distance any_first t) h.left h.first.least.0);
  }

-- ---- the nearest element, and its root's envelope

module _ {T E : Type 0} {IsPoint : List ℤ → Type 0} {v : Boxes E} {o : Objects T E} {d : Distances T} {p : List ℤ} (law : IsMeasured IsPoint v o d p) (root : ParentNode T E) (whole : IsWhole v o root)
    (t : T) (nearest : IsNearest (λ t. d.distance_2 t p) (elements_of root) t) where
  pub nearest-not-below : v.distance_2 (envelope_of root) p ≤ d.distance_2 t p
  nearest-not-below = All-contains (λ t. v.distance_2 (envelope_of root) p ≤ d.distance_2 t p) (elements_of root) t (All-from_recursion _ (elements_of root) (root-below law root whole)) nearest.member

  pub nearest-not-above : d.distance_2 t p ≤ v.min_max_dist_2 (envelope_of root) p
  nearest-not-above =
      elim (leb_tells (d.distance_2 t p) (v.min_max_dist_2 (envelope_of root) p)) [
        | inl near ↦ near.1
        | inr far ↦ absurd (root-within law root whole (λ none. absurd (omega (arith, nearest.member.1, ap length none)))
            (all_map (λ u. d.distance_2 t p ≤ d.distance_2 u p) (λ u. v.min_max_dist_2 (envelope_of root) p < d.distance_2 u p) (λ u h. omega (arith, far.1, h)) (elements_of root) nearest.least))
      ]
