-- What a search gives comes first in the stated order of what waits; and where a parent that waits is opened before an
-- element at its distance is given, only the farther parents still wait.
use Rattle.std.proofs.Common.{◌≡◌, ℕ, ◌-◌, ◌<◌, ◌≤◌, ℤ, min, true, false, Some, None, List, [], ◌∷◌, if◌then◌else◌, nat_lt, ap, sym, ◌∙◌, subst, arith, Option, Result, Ok, Err, IfSome, IfOk, inl, inr}
use Rattle.std.specs.List.{AllByRecursion}
use Rattle.std.specs.Ordering.{is_lt}
use Rattle.std.specs.declared.cmp.Ordering.{Ordering}
use Rattle.std.proofs.lemmas.Bool.{cases_lt}
use Rattle.std.proofs.lemmas.Bool.Decides.{nat_tests}
use Rattle.rstar_base.specs.Counts.{usize_max}
use Rattle.rstar_base.specs.Envelopes.{Boxes}
use Rattle.rstar_base.specs.Elements.{Objects, Distances}
use Rattle.rstar_base.specs.SmallHeaps.{Held, items_of}
use Rattle.rstar_base.proofs.Lists.{all-append, all_map, all_both}
use Rattle.rstar.specs.declared.node.RTreeNode.{RTreeNode, Leaf}
use Rattle.rstar.specs.declared.node.ParentNode.{ParentNode}
use Rattle.rstar.specs.declared.algorithm.nearest_neighbor.search.Stage.{Stage}
use Rattle.rstar.specs.declared.algorithm.nearest_neighbor.search.Stage.TheVariants.{Running}
use Rattle.rstar.specs.ByOrder.{IsNextInOrder}
use Rattle.rstar.specs.Lists.{IsNotAfter, IsNotLater, IsNoFarther, AreFirstOf, AreNearestOf}
use Rattle.rstar.specs.Neighbors.{IsNeighbor, shown}
use Rattle.rstar.specs.Nodes.{far_of, parents_of, elements, parents, far, all_elements, all_parents, all_far, children_of, envelope_of, IsTree, IsInner, IsElement}
use Rattle.rstar.specs.inside.Searches.{NodeSearch, Item, waiting_at, waiting_of, any_first, parents_first, distance_of, AreWholeNodes, ComesFirst, TiesBy, IsReady, IsReadyAt, IsUnrefused}
use Rattle.rstar.specs.laws.TieLaws.{parents_ties}
use Rattle.rstar.proofs.lists.Items.{sum_by-same}
use Rattle.rstar.proofs.searching.Nearness.{IsMeasured, IsPart, by-tree, above-node, above-Parent}
use Rattle.rstar.proofs.searching.Searches.{parents-Leaf}
use Rattle.rstar.proofs.searching.InOrder.{first-by}
use Rattle.rstar.proofs.selecting.Progress as progress
use Rattle.rstar.proofs.trees.ByChildren.{leaf_element-Leaf, leaf_element-Parent, parents-Parent, far-Parent, far-Leaf, node_distance-Parent}

-- ---- two elements in the stated order

module _ {T : Type 0} (distance : T → ℕ) (order : T → T → Ordering) (t u : T) where
  pub later-far : distance t < distance u → IsNotLater distance order t u
  later-far less = grind (arith, nat_tests)

  -- one that is no farther, and at the same distance does not come after the other
  pub no-later : distance t ≤ distance u → (distance u ≡ distance t → IsNotAfter order t u) → IsNotLater distance order t u
  no-later le tied = grind (arith, nat_tests)

  -- what may stand before it in the stated order is no farther
  pub no-nearer : IsNotLater distance order t u → IsNoFarther distance t u
  no-nearer h = grind (arith, nat_tests)

-- so the first by any order of those at equal distance are the nearest
pub first-if-ok : {T A Z : Type 0} (distance : T → ℕ) (all : List T) (most : ℕ) (given : A → List T) (r : Result A Z) → IfOk r (λ x. AreFirstOf (IsNotLater distance any_first) all most (given x))
    → IfOk r (λ x. AreNearestOf distance all most (given x))
first-if-ok distance all most given (Ok x) h = first-by (IsNotLater distance any_first) (IsNoFarther distance) (no-nearer distance any_first) all most (given x) h
first-if-ok distance all most given (Err z) h = tt

counted : (a b : ℕ) → a < b → ◌≡◌ {A = ℕ} (if nat_lt a b then 1 else 0) 1
counted a b less = grind (arith, nat_tests)

-- ---- what waits after a leaf was given

module _ {T E : Type 0} {IsPoint : List ℤ → Type 0} {v : Boxes E} {o : Objects T E} {d : Distances T} {p : List ℤ} (law : IsMeasured IsPoint v o d p) where
  abbrev dist : E → ℕ
  dist e = v.distance_2 e p

  abbrev near : T → ℕ
  near t = d.distance_2 t p

  abbrev at : RTreeNode T E → ℕ
  at = distance_of v d p

module _ {T E : Type 0} {IsPoint : List ℤ → Type 0} {v : Boxes E} {o : Objects T E} {d : Distances T} {p : List ℤ} (law : IsMeasured IsPoint v o d p) where
  -- all parents of a node that is farther than m are
  far-tree : (m h : ℕ) (n : RTreeNode T E) → IsTree (IsInner v o) (IsElement v o) h n → m < at law n → far (dist law) m n ≡ parents n
  far-tree m = by-tree v o (λ n. m < at law n → far (dist law) m n ≡ parents n) (λ t is less. far-Leaf T E (dist law) m t ∙ sym (parents-Leaf T E t))
      (λ h q inner each whole less.
      let over : m < dist law (envelope_of q) = omega (arith, less, node_distance-Parent (dist law) (near law) q) in
      let below = all_both (λ c. dist law (envelope_of q) ≤ at law c) (λ c. IsTree (IsInner v o) (IsElement v o) h c × (m < at law c → far (dist law) m c ≡ parents c)) (λ c. far (dist law) m c ≡ parents c) (λ c le own. own.1 (omega (arith, over, le))) (children_of q) (above-Parent law q h inner.0 whole) each in
      omega (arith, sum_by-same (far (dist law) m) parents (children_of q) below, counted m (dist law (envelope_of q)) over, far-Parent (dist law) m q, parents-Parent q))

  -- nothing that waits comes before what is given
  module _ (ties : RTreeNode T E → RTreeNode T E → Ordering) (order : T → T → Ordering) (by : TiesBy ties order) (t : T) where
    node-later : (n : RTreeNode T E) → IsPart law n → (near law t ≤ at law n) × (at law n ≡ near law t → is_lt (ties n (Leaf t)) ≡ false) → AllByRecursion (IsNotLater (near law) order t) (elements n)
    node-later n part h =
        elim (cases_lt (near law t) (at law n)) [
          | inl less ↦ all_map (λ u. at law n ≤ near law u) (IsNotLater (near law) order t) (λ u le. later-far (near law) order t u (omega (arith, less, le))) (elements n) (above-node law n part)
          | inr le ↦
              let same : at law n ≡ near law t = omega (arith, le, h.0) in
              all_both (λ u. at law n ≤ near law u) (IsNotAfter order t) (IsNotLater (near law) order t) (λ u le first. no-later (near law) order t u (omega (arith, same, le)) (λ _. first)) (elements n) (above-node law n part) (by n t (h.1 same))
        ]

    pub all-later : (ns : List (RTreeNode T E)) → AreWholeNodes v o ns → ComesFirst v d p ties ns t → AllByRecursion (IsNotLater (near law) order t) (all_elements ns)
    all-later [] w h = tt
    all-later (n ∷ ns) w h = all-append (IsNotLater (near law) order t) (elements n) (all_elements ns) (node-later n w.0 h.0) (all-later ns w.1 h.1)

  module _ (order : T → T → Ordering) (t : T) where
    abbrev IsBehind : RTreeNode T E → Type 0
    IsBehind n = (near law t ≤ at law n) × (at law n ≡ near law t → is_lt (parents_first order n (Leaf t)) ≡ false)

    -- a parent that waits is farther
    node-far : (h : ℕ) (n : RTreeNode T E) → IsTree (IsInner v o) (IsElement v o) h n → IsBehind n → far (dist law) (near law t) n ≡ parents n
    node-far h n w behind =
        elim (cases_lt (near law t) (at law n)) [
          | inl less ↦ far-tree (near law t) h n w less
          | inr le ↦ by-tree v o (λ n. is_lt (parents_first order n (Leaf t)) ≡ false → far (dist law) (near law t) n ≡ parents n) (λ u is _. far-Leaf T E (dist law) (near law t) u ∙ sym (parents-Leaf T E u))
              (λ h q inner each below first. let no : true ≡ false = rw (leaf_element-Parent q, leaf_element-Leaf T E t) at first in cc) h n w (behind.1 (omega (arith, le, behind.0)))
        ]

    -- all parents that wait are farther
    pub parents-far : (ns : List (RTreeNode T E)) → AreWholeNodes v o ns → ComesFirst v d p (parents_first order) ns t → all_far (dist law) (near law t) ns ≡ all_parents ns
    parents-far ns w h = sum_by-same (far (dist law) (near law t)) parents ns (all_both (λ n. (h : ℕ) × IsTree (IsInner v o) (IsElement v o) h n) IsBehind (λ n. far (dist law) (near law t) n ≡ parents n) (λ n part behind. node-far part.0 n part.1 behind) ns w h)

-- ---- what a call gives

-- a search on its way has whole nodes that wait
pub whole-waiting : {T E S O : Type 0} (v : Boxes E) (d : Distances T) (p : List ℤ) (compare : S → S → Ordering) (ties : RTreeNode T E → RTreeNode T E → Ordering) (value : S → ℤ) (o : Objects T E) (stage : Stage) (root : ParentNode T E) (heap : Held (Item T E S O)) (opened : ℕ)
    → stage ≡ Running → IsReadyAt v d p compare ties value o stage root heap opened → AreWholeNodes v o (waiting_at stage root (items_of heap))
whole-waiting v d p compare ties value o stage root heap opened e ready = let running = rw e at ready in rw e running.parts

module _ {T E : Type 0} {IsPoint : List ℤ → Type 0} {v : Boxes E} {o : Objects T E} {d : Distances T} {p : List ℤ} (law : IsMeasured IsPoint v o d p) {P S O A : Type 0}
    (order : T → T → Ordering) (compare : S → S → Ordering) (value : S → ℤ) (s t : NodeSearch T E S O) (point : P) (element : A → T) where
  one-next : (x : T) → t.root ≡ s.root → IsReady v d p compare (parents_first order) value o t → t.stage ≡ Running → IsNeighbor v d p s.root.now (waiting_of s) (waiting_of t) x → ComesFirst v d p (parents_first order) (waiting_of t) x
      → IsNextInOrder v d p order (shown t point) x
  one-next x same ready on gives first =
      let whole = whole-waiting v d p compare (parents_first order) value o t.stage t.root.now t.heap t.opened on ready in
      let count = progress.counted v d p compare (parents_first order) value o t ready (subst IsUnrefused (sym on) tt) in
      let all = parents-far law order x (waiting_of t) whole first in
      let root : t.root.now ≡ s.root.now = ap (λ b. b.now) same in
      let still = gives.still_far ∙ ap (far_of (λ e. v.distance_2 e p) (d.distance_2 x p)) (sym root) in
      record {
        first = all-later law (parents_first order) order (parents_ties order) x (waiting_of t) whole first;
        opened = count.counts ∙ ap (λ n. min (parents_of t.root.now - n) usize_max) (sym all ∙ still);
      }

  pub next-in-order : {Z : Type 0} (r : Option (Result A Z)) → t.root ≡ s.root → IsReady v d p compare (parents_first order) value o t → IfSome r (λ x. IfOk x (λ _. t.stage ≡ Running))
      → IfSome r (λ x. IfOk x (λ y. IsNeighbor v d p s.root.now (waiting_of s) (waiting_of t) (element y))) → IfSome r (λ x. IfOk x (λ y. ComesFirst v d p (parents_first order) (waiting_of t) (element y)))
      → IfSome r (λ x. IfOk x (λ y. IsNextInOrder v d p order (shown t point) (element y)))
  next-in-order None same ready on gives first = tt
  next-in-order (Some (Ok y)) same ready on gives first = one-next (element y) same ready on gives first
  next-in-order (Some (Err z)) same ready on gives first = tt
