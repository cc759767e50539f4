-- A join of a tree with itself: what the walk gives is the join of its elements with themselves, and how it goes on.
use Rattle.std.proofs.Common.{◌≡◌, ◌≢◌, ℕ, ℤ, zero, suc, ◌+◌, ◌≤◌, ◌<◌, min, List, [], ◌∷◌, ◌++◌, length, map, filter, sum_by, refl, ap, ◌∙◌, sym, subst, arith, Bool, true, false, append_assoc, append-nil, if◌then◌else◌}
use Rattle.std.specs.Prelude.{Some}
use Rattle.std.specs.Borrow.{Bor}
use Rattle.std.specs.List.Sorted.{IsPermutation}
use Rattle.std.proofs.lemmas.List.Sorted.{IsPermutation-refl, IsPermutation-append, IsPermutation-append_comm, IsPermutation-trans, sum_by-IsPermutation}
use Rattle.std.proofs.lemmas.List.Elements.{filter-append}
use Rattle.std.proofs.lemmas.List.Sums.{sum_by-cons, sum_by-append}
use Rattle.std.proofs.lemmas.List.Concat.{flat_map-append}
use Rattle.std.proofs.lemmas.Bool.{true≢false}
use Rattle.std.proofs.lemmas.List.{map-append}
use Rattle.rstar_base.specs.Envelopes.{Boxes, EnvelopeLaws}
use Rattle.rstar_base.specs.Elements.{Objects, ObjectLaws}
use Rattle.rstar.specs.declared.node.RTreeNode.{RTreeNode, Leaf, Parent}
use Rattle.rstar.specs.declared.node.ParentNode.{ParentNode}
use Rattle.rstar.specs.declared.iterators.joins.selves.SelfIntersectionIterator.{SelfIntersectionIterator}
use Rattle.rstar.specs.Nodes.{parents, all_parents, elements, all_elements, elements_of, children_of, node_box, is_leaf_node, IsTree, IsInner, IsElement, AreWhole, IsWhole}
use Rattle.rstar.specs.Lists.{product}
use Rattle.rstar.specs.Meets.{opened_to, both_leaves, meet_of_roots, all_pairs, all_opens, pairs_at, opens_at}
use Rattle.rstar.specs.inside.PairWalks.{pairs_below, opens_below, opens_by, GoesOn, IsNextPair, pairs_by, IsIdle, IsWalk}
use Rattle.rstar.specs.Joins.{SeenLaws, join}
use Rattle.rstar.specs.SelfJoins.{pairs_behind, self_join, Lists, siblings_by, siblings_below, siblings, pairs_within, opens_within, pairs_from_lists, opens_from_lists, own_pairs, own_meet, own_meet_of, own_to_come, list_weight, weight, weight_of, AreLists, HasItsLists, IsSelfJoining, GivesOwnPair, IsEntered}
use Rattle.rstar.proofs.trees.ByChildren.{fold_tree-Parent, no_leaf, no_parent, parent_of, is_leaf, is_parent, elements-Leaf, elements-Parent, node_box-Parent, parents-Parent, IsParentOf-Parent}
use Rattle.rstar.proofs.trees.Heights.{levels_are}
use Rattle.rstar.proofs.joining.PairsByChildren.{the_pair, opened, opened_to-Parent, is_leaf-Parent}
use Rattle.rstar.proofs.joining.MeetingNodes.{exchanged, products-beside}
use Rattle.rstar.proofs.searching.Ties.{filter-along}
use Rattle.rstar.proofs.searching.Nearness.{box-value, full-box}
use Rattle.rstar.proofs.searching.Searches.{parents-Leaf}
use Rattle.rstar.proofs.joining.Joined.{nodes-joined, roots-counted}
use Rattle.rstar_base.specs.Counts.{usize_max}
use Rattle.rstar.proofs.joining.PairWalks.{idle-pairs, idle-opens}

-- ---- joins of lists with themselves

-- the pairs of a list put together: of the parts with one another, and of each with itself
behind-append : {A : Type 0} (xs ys : List A) → IsPermutation (product xs ys ++ (pairs_behind xs ++ pairs_behind ys)) (pairs_behind (xs ++ ys))
behind-append [] ys = IsPermutation-refl (pairs_behind ys)
behind-append {A} (x ∷ xs) ys =
    let row : List A → List (A × A) = map (λ y. the_pair x y) in
    rw (map-append (λ y. the_pair x y) xs ys, append_assoc (row xs) (pairs_behind xs) (pairs_behind ys))
    (IsPermutation-trans _ _ _ (exchanged (row ys) (product xs ys) (row xs) (pairs_behind xs ++ pairs_behind ys))
    (IsPermutation-append _ _ _ _ (IsPermutation-append_comm (row ys) (row xs)) (behind-append xs ys)))

self_join-append : {T E : Type 0} (meets : E → E → Bool) (box_of : T → E) (xs ys : List T)
    → IsPermutation (join meets box_of box_of xs ys ++ (self_join meets box_of xs ++ self_join meets box_of ys)) (self_join meets box_of (xs ++ ys))
self_join-append {T} meets box_of xs ys =
    let test = λ (p : T × T). meets (box_of p.0) (box_of p.1) in
    let parts = filter-append test (product xs ys) (pairs_behind xs ++ pairs_behind ys) ∙ ap (λ l. filter test (product xs ys) ++ l) (filter-append test (pairs_behind xs) (pairs_behind ys)) in
    subst (λ l. IsPermutation l (self_join meets box_of (xs ++ ys))) parts (filter-along test _ _ (behind-append xs ys))

-- ---- what the first node of a list gives, and what comes below and behind it

module _ {T E : Type 0} (meets : E → E → Bool) (box_of : T → E) where
  abbrev pairs_of : List (RTreeNode T E × RTreeNode T E) → List (T × T)
  pairs_of = pairs_below meets box_of box_of

  abbrev opens_of : List (RTreeNode T E × RTreeNode T E) → ℕ
  opens_of = opens_below meets box_of box_of

  pairs-parts : (n : RTreeNode T E) (ns : List (RTreeNode T E)) (ps qs : List (RTreeNode T E × RTreeNode T E))
      → pairs_of (product (n ∷ []) ns ++ (ps ++ qs)) ≡ all_pairs meets box_of box_of (n ∷ []) ns ++ (pairs_of ps ++ pairs_of qs)
  pairs-parts n ns ps qs =
      flat_map-append (λ (p : RTreeNode T E × RTreeNode T E). pairs_at meets box_of box_of p.0 p.1) (product (n ∷ []) ns) (ps ++ qs)
      ∙ ap (λ l. all_pairs meets box_of box_of (n ∷ []) ns ++ l) (flat_map-append (λ (p : RTreeNode T E × RTreeNode T E). pairs_at meets box_of box_of p.0 p.1) ps qs)

  opens-parts : (n : RTreeNode T E) (ns : List (RTreeNode T E)) (ps qs : List (RTreeNode T E × RTreeNode T E))
      → opens_of (product (n ∷ []) ns ++ (ps ++ qs)) ≡ all_opens meets box_of box_of (n ∷ []) ns + (opens_of ps + opens_of qs)
  opens-parts n ns ps qs =
      let opens : RTreeNode T E × RTreeNode T E → ℕ = λ p. opens_at meets box_of box_of p.0 p.1 in
      omega (arith, sum_by-append opens (product (n ∷ []) ns) (ps ++ qs), sum_by-append opens ps qs)

-- ---- what the walk gives of whole nodes

-- a tree's envelopes are seen as they are
itself : {E : Type 0} (v : Boxes E) → SeenLaws v v (λ e. e)
itself v = record { value = λ a h. h; merge = λ a b. refl }

module _ {T E : Type 0} {IsPoint : List ℤ → Type 0} {v : Boxes E} {o : Objects T E} (laws : EnvelopeLaws IsPoint v) (ok : ObjectLaws v o) where
  abbrev IsOwn : ℕ → RTreeNode T E → Type 0
  IsOwn h n = IsPermutation (pairs_of v.intersects o.box_of (siblings_below h n)) (self_join v.intersects o.box_of (elements n))

  own-row : (h : ℕ) → ((n : RTreeNode T E) → IsTree (IsInner v o) (IsElement v o) h n → IsOwn h n) → (ns : List (RTreeNode T E)) → AreWhole v o h ns
      → IsPermutation (pairs_of v.intersects o.box_of (siblings_by (siblings_below h) ns)) (self_join v.intersects o.box_of (all_elements ns))
  own-row h below [] whole = IsPermutation-refl []
  own-row h below (n ∷ ns) whole =
      let crossed = rw (append-nil (elements n)) at (nodes-joined laws laws (itself v) ok ok h h (n ∷ []) ns (whole.0, tt) whole.1) in
      subst (λ l. IsPermutation l (self_join v.intersects o.box_of (all_elements (n ∷ ns)))) (sym (pairs-parts v.intersects o.box_of n ns (siblings_below h n) (siblings_by (siblings_below h) ns)))
      (IsPermutation-trans _ _ _
      (IsPermutation-append _ _ _ _ crossed (IsPermutation-append _ _ _ _ (below n whole.0) (own-row h below ns whole.1)))
      (self_join-append v.intersects o.box_of (elements n) (all_elements ns)))

  own-node : (h : ℕ) (n : RTreeNode T E) → IsTree (IsInner v o) (IsElement v o) h n → IsOwn h n
  own-node zero n w =
      let l = is_leaf _ n w in
      rw (ap elements l.1 ∙ elements-Leaf T E l.0) (IsPermutation-refl [])
  own-node (suc h) n w =
      let p = is_parent _ n w in
      rw (ap opened_to p.1 ∙ opened_to-Parent p.0, ap elements p.1 ∙ elements-Parent p.0) (own-row h (own-node h) (children_of p.0) p.2.1)

-- ---- lists on one level

module _ {T E : Type 0} (v : Boxes E) (o : Objects T E) where
  own-level : (h : ℕ) (ns : List (RTreeNode T E)) → AreWhole v o h ns → siblings ns ≡ siblings_by (siblings_below h) ns
  own-level h [] whole = refl
  own-level h (n ∷ ns) whole =
      ap (λ k. siblings_by (siblings_below k) (n ∷ ns)) (levels_are (IsInner v o) (IsElement v o) (λ p q. q.1) h (n ∷ ns) (λ none. cc) whole)

  -- a list whose first node is a leaf, or a parent: what comes next
  own-leaf : (h : ℕ) (n : RTreeNode T E) (ns : List (RTreeNode T E)) (t : T) → AreWhole v o h (n ∷ ns) → n ≡ Leaf t → siblings (n ∷ ns) ≡ product (n ∷ []) ns ++ ([] ++ siblings ns)
  own-leaf zero n ns t whole is = own-level zero (n ∷ ns) whole ∙ ap (λ l. product (n ∷ []) ns ++ l) (sym (own-level zero ns whole.1))
  own-leaf (suc h) n ns t whole is = absurd (no_parent _ t (subst (IsTree (IsInner v o) (IsElement v o) (suc h)) is whole.0))

  pub own-parent : (h : ℕ) (n : RTreeNode T E) (ns : List (RTreeNode T E)) (p : ParentNode T E) → AreWhole v o h (n ∷ ns) → n ≡ Parent p
      → (k : ℕ) × (h ≡ k + 1) × AreWhole v o k (children_of p) × (siblings (n ∷ ns) ≡ product (n ∷ []) ns ++ (siblings (children_of p) ++ siblings ns))
  own-parent zero n ns p whole is = absurd (no_leaf _ p (subst (IsTree (IsInner v o) (IsElement v o) zero) is whole.0))
  own-parent (suc h) n ns p whole is =
      let q = parent_of _ p (subst (IsTree (IsInner v o) (IsElement v o) (suc h)) is whole.0) in
      let below : siblings_below (suc h) n ≡ siblings (children_of p) =
      ap (siblings_by (siblings_below h)) (ap opened_to is ∙ opened_to-Parent p) ∙ sym (own-level h (children_of p) q.1) in (
        h,
        omega arith,
        q.1,
        own-level (suc h) (n ∷ ns) whole
            ∙ (λ i. product (n ∷ []) ns ++ (below i ++ sym (own-level (suc h) ns whole.1) i)),
      )

-- ---- the last of several lists

module _ {T E : Type 0} (v : Boxes E) (o : Objects T E) where
  -- it lies on a level below a bound, and others below that bound may take its place
  pub record IsLastList (h : ℕ) (lists : Lists T E) (last : Bor (List (RTreeNode T E))) : Type 0 where
    pub level : ℕ
    pub bound : ℕ
    pub whole : AreWhole v o level last.now
    pub below : level < bound
    pub few : length lists + level < h
    pub again : (more : Lists T E) → AreLists v o bound more → AreLists v o h (lists ++ more)

  last-of : (h : ℕ) (lists : Lists T E) (last : Bor (List (RTreeNode T E))) → AreLists v o h (lists ++ last ∷ []) → IsLastList h lists last
  last-of h [] last is = record { level = is.0; bound = h; whole = is.2; below = is.1; few = omega (arith, is.1); again = λ more m. m }
  last-of h (r ∷ lists) last is =
      let l = last-of is.0 lists last is.3 in
      record { level = l.level; bound = l.bound; whole = l.whole; below = l.below; few = omega (arith, l.few, is.1); again = λ more m. (is.0, is.1, is.2, l.again more m) }

  pub last-list : (h : ℕ) (all lists : Lists T E) (last : Bor (List (RTreeNode T E))) → all ≡ lists ++ last ∷ [] → AreLists v o h all → IsLastList h lists last
  last-list h all lists last is at = last-of h lists last (subst (AreLists v o h) is at)

-- ---- weights

weight-after : {T E : Type 0} (xs ys : Lists T E) → weight_of (xs ++ ys) ≡ weight_of xs + weight_of ys
weight-after [] ys = omega arith
weight-after (x ∷ xs) ys = omega (arith, weight-after xs ys)

weight-Parent : {T E : Type 0} (p : ParentNode T E) → weight (Parent p) ≡ list_weight (map weight (children_of p))
unfolding weight
weight-Parent p = fold_tree-Parent _ _ p

-- ---- a list is taken: its first node is paired, and what is behind and below it is left

module _ {T E : Type 0} (v : Boxes E) (o : Objects T E) (meets : E → E → Bool) where
  pairs-after : (xs ys : Lists T E) → pairs_from_lists meets o.box_of (xs ++ ys) ≡ pairs_from_lists meets o.box_of ys ++ pairs_from_lists meets o.box_of xs
  pairs-after [] ys = sym (append-nil _)
  pairs-after (x ∷ xs) ys =
      ap (λ l. l ++ pairs_within meets o.box_of x.now) (pairs-after xs ys)
      ∙ append_assoc (pairs_from_lists meets o.box_of ys) (pairs_from_lists meets o.box_of xs) (pairs_within meets o.box_of x.now)

  opens-after : (xs ys : Lists T E) → opens_from_lists meets o.box_of (xs ++ ys) ≡ opens_from_lists meets o.box_of xs + opens_from_lists meets o.box_of ys
  opens-after [] ys = omega arith
  opens-after (x ∷ xs) ys = omega (arith, opens-after xs ys)

  -- what was taken of lists, and what is left of them
  pub record IsTaken (h : ℕ) (items items' : Lists T E) (firsts behind : List (RTreeNode T E)) (opened : ℕ) : Type 0 where
    pub pairs : pairs_from_lists meets o.box_of items ≡ all_pairs meets o.box_of o.box_of firsts behind ++ pairs_from_lists meets o.box_of items'
    pub opens : opens_from_lists meets o.box_of items ≡ opened + (all_opens meets o.box_of o.box_of firsts behind + opens_from_lists meets o.box_of items')
    pub nearer : weight_of items' < weight_of items
    pub lists : AreLists v o h items'

  module _ (h : ℕ) (items above : Lists T E) (nodes : Bor (List (RTreeNode T E))) (is : items ≡ above ++ nodes ∷ []) (at : AreLists v o h items) where
    last : IsLastList v o h above nodes
    last = last-list v o h items above nodes is at

    pub taken-none : nodes.now ≡ [] → IsTaken h items above [] [] 0
    taken-none none = record {
      pairs = ap (pairs_from_lists meets o.box_of) is ∙ pairs-after above (nodes ∷ []) ∙ ap (λ l. pairs_within meets o.box_of l ++ pairs_from_lists meets o.box_of above) none;
      opens = omega (arith, ap (opens_from_lists meets o.box_of) is, opens-after above (nodes ∷ []), ap (opens_within meets o.box_of) none);
      nearer = omega (arith, ap weight_of is, weight-after above (nodes ∷ []), ap (λ l. list_weight (map weight l)) none);
      lists = subst (AreLists v o h) (append-nil above) (last.again [] tt);
    }

    module _ (items' : Lists T E) (behind : Bor (List (RTreeNode T E))) (n : RTreeNode T E) (first : nodes.now ≡ n ∷ behind.now) (firsts : List (RTreeNode T E)) (one : firsts ≡ n ∷ []) where
      whole : AreWhole v o last.level (n ∷ behind.now)
      whole = subst (AreWhole v o last.level) first last.whole

      -- `more` is left of what lies below the first node, which gives the pairs `ps`
      taken-first : (more : Lists T E) (ps : List (RTreeNode T E × RTreeNode T E)) (opened : ℕ) → items' ≡ above ++ (behind ∷ more)
          → siblings (n ∷ behind.now) ≡ product (n ∷ []) behind.now ++ (ps ++ siblings behind.now) → pairs_from_lists meets o.box_of more ≡ pairs_of meets o.box_of ps
          → opened + opens_from_lists meets o.box_of more ≡ parents n + opens_of meets o.box_of ps → weight_of more ≤ weight n → AreLists v o last.level more
          → IsTaken h items items' firsts behind.now opened
      taken-first more ps opened is' split pairs opens light levels =
          let rest = pairs_from_lists meets o.box_of above in
          let cross = all_pairs meets o.box_of o.box_of (n ∷ []) behind.now in
          let was = ap (pairs_from_lists meets o.box_of) is ∙ pairs-after above (nodes ∷ []) ∙ ap (λ l. pairs_within meets o.box_of l ++ rest) first in
          let later = ap (pairs_from_lists meets o.box_of) is' ∙ pairs-after above (behind ∷ more) ∙ ap (λ l. (l ++ pairs_within meets o.box_of behind.now) ++ rest) pairs in
          record {
            pairs =
                was ∙ ap (λ l. l ++ rest) (ap (pairs_of meets o.box_of) split ∙ pairs-parts meets o.box_of n behind.now ps (siblings behind.now))
                ∙ append_assoc cross (pairs_of meets o.box_of ps ++ pairs_within meets o.box_of behind.now) rest
                ∙ (λ i. all_pairs meets o.box_of o.box_of (sym one i) behind.now ++ sym later i);
            opens = omega (
              arith,
              ap (opens_from_lists meets o.box_of) is,
              opens-after above (nodes ∷ []),
              ap (opens_within meets o.box_of) first,
              sum_by-cons parents n behind.now,
              ap (opens_of meets o.box_of) split ∙ opens-parts meets o.box_of n behind.now ps (siblings behind.now),
              ap (opens_from_lists meets o.box_of) is',
              opens-after above (behind ∷ more),
              ap (λ l. all_opens meets o.box_of o.box_of l behind.now) one,
              opens,
            );
            nearer = omega (arith, ap weight_of is, weight-after above (nodes ∷ []), ap (λ l. list_weight (map weight l)) first, ap weight_of is', weight-after above (behind ∷ more), light);
            lists = subst (AreLists v o h) (sym is') (last.again (behind ∷ more) (last.level, last.below, whole.1, levels));
          }

      pub taken-leaf : (t : T) → n ≡ Leaf t → items' ≡ above ++ behind ∷ [] → IsTaken h items items' firsts behind.now 0
      taken-leaf t leaf is' =
          taken-first [] [] 0 is' (own-leaf v o last.level n behind.now t whole leaf) refl (omega (arith, ap parents leaf, parents-Leaf T E t)) (omega arith) tt

      pub taken-parent : (children : Bor (List (RTreeNode T E))) (p : ParentNode T E) → n ≡ Parent p → children.now ≡ children_of p → items' ≡ above ++ (behind ∷ children ∷ [])
          → IsTaken h items items' firsts behind.now 1
      taken-parent children p parent same is' =
          let low = own-parent v o last.level n behind.now p whole parent in
          taken-first (children ∷ []) (siblings (children_of p)) 1 is' low.3 (ap (pairs_within meets o.box_of) same)
          (omega (arith, ap parents parent, parents-Parent p, ap (opens_within meets o.box_of) same)) (omega (arith, ap weight parent, weight-Parent p, ap (λ l. list_weight (map weight l)) same))
          (low.0, omega (arith, low.1), subst (AreWhole v o low.0) (sym same) low.2, tt)

pub root-joined : {T E : Type 0} {IsPoint : List ℤ → Type 0} {v : Boxes E} {o : Objects T E} (laws : EnvelopeLaws IsPoint v) (ok : ObjectLaws v o) (root : ParentNode T E) → IsWhole v o root
    → IsPermutation (pairs_within v.intersects o.box_of (children_of root)) (self_join v.intersects o.box_of (elements_of root))
root-joined {v = v} {o = o} laws ok root whole = rw (own-level v o whole.height (children_of root) whole.below) (own-row laws ok whole.height (own-node laws ok whole.height) (children_of root) whole.below)

-- ---- no more is opened than by a join of the tree with itself

square-parts : {A : Type 0} (f : A × A → ℕ) (x : A) (xs : List A) → f (x, x) + (sum_by f (product (x ∷ []) xs) + sum_by f (product xs xs)) ≤ sum_by f (product (x ∷ xs) (x ∷ xs))
square-parts f x xs =
    let row = map (λ y. the_pair x y) xs in
    omega (
      arith,
      sum_by-cons f (the_pair x x) (row ++ product xs (x ∷ xs)),
      sum_by-append f row (product xs (x ∷ xs)),
      ap (sum_by f) (append-nil row),
      sum_by-IsPermutation f _ _ (products-beside xs (x ∷ []) xs),
      sum_by-append f (product xs (x ∷ [])) (product xs xs),
    )

module _ {T E : Type 0} {IsPoint : List ℤ → Type 0} {v : Boxes E} {o : Objects T E} (laws : EnvelopeLaws IsPoint v) (ok : ObjectLaws v o) where
  meets-itself : (h : ℕ) (n : RTreeNode T E) → IsTree (IsInner v o) (IsElement v o) h n → v.intersects (node_box o.box_of n) (node_box o.box_of n) ≡ true
  meets-itself h n w = let value = box-value laws ok h n w in laws.contains_intersects _ _ value value (laws.contains_refl _ value) (full-box laws ok h n w)

  abbrev IsFewer : ℕ → RTreeNode T E → Type 0
  IsFewer h n = parents n + opens_of v.intersects o.box_of (siblings_below h n) ≤ opens_at v.intersects o.box_of o.box_of n n

  list-fewer : (h : ℕ) → ((n : RTreeNode T E) → IsTree (IsInner v o) (IsElement v o) h n → IsFewer h n) → (ns : List (RTreeNode T E)) → AreWhole v o h ns
      → all_parents ns + opens_of v.intersects o.box_of (siblings_by (siblings_below h) ns) ≤ all_opens v.intersects o.box_of o.box_of ns ns
  list-fewer h each [] w = omega arith
  list-fewer h each (n ∷ ns) w =
      omega (
        arith,
        opens-parts v.intersects o.box_of n ns (siblings_below h n) (siblings_by (siblings_below h) ns),
        sum_by-cons parents n ns,
        each n w.0,
        list-fewer h each ns w.1,
        square-parts (λ (p : RTreeNode T E × RTreeNode T E). opens_at v.intersects o.box_of o.box_of p.0 p.1) n ns,
      )

  node-fewer : (h : ℕ) (n : RTreeNode T E) → IsTree (IsInner v o) (IsElement v o) h n → IsFewer h n
  node-fewer zero n w = let l = is_leaf _ n w in omega (arith, ap parents l.1, parents-Leaf T E l.0)
  node-fewer (suc h) n w =
      let p = is_parent _ n w in let same : opened_to n ≡ children_of p.0 = ap opened_to p.1 ∙ opened_to-Parent p.0 in
      let leaf = ap is_leaf_node p.1 ∙ is_leaf-Parent p.0 in
      let inner : both_leaves n n ≡ false = ap (λ (b : Bool). if b then is_leaf_node n else false) leaf in
      omega (arith, (opened v.intersects o.box_of o.box_of true n n inner (meets-itself (suc h) n w)).opens, ap parents p.1, parents-Parent p.0, ap all_parents same, list-fewer h (node-fewer h) (opened_to n) (subst (AreWhole v o h) (sym same) p.2.1))

  pub root-fewer : (root : ParentNode T E) → IsWhole v o root → own_meet v.intersects o.box_of root ≤ meet_of_roots v.intersects o.box_of o.box_of root root
  root-fewer root whole = by_list (children_of root) refl where
    by_list : (ns : List (RTreeNode T E)) → children_of root ≡ ns → own_meet v.intersects o.box_of root ≤ meet_of_roots v.intersects o.box_of o.box_of root root
    by_list [] is = omega (arith, ap (own_meet_of v.intersects o.box_of) is)
    by_list (n ∷ ns) is =
        let some : children_of root ≢ [] = λ e. cc in
        let w : IsTree (IsInner v o) (IsElement v o) (suc whole.height) (Parent root) = IsParentOf-Parent _ root ((whole.tight, some), whole.below) in
        let met = subst (λ e. v.intersects e e ≡ true) (node_box-Parent o.box_of root) (meets-itself (suc whole.height) (Parent root) w) in
        let m = roots-counted laws laws (itself v) ok ok root root whole whole met some some in
        omega (
          arith,
          m,
          ap (own_meet_of v.intersects o.box_of) is,
          ap (opens_within v.intersects o.box_of) is,
          ap (opens_of v.intersects o.box_of) (own-level v o whole.height (children_of root) whole.below),
          list-fewer whole.height (node-fewer whole.height) (children_of root) whole.below,
        )

-- a list is opened where it has nodes
pub own-started : {T E : Type 0} (meets : E → E → Bool) (box_of : T → E) (ns : List (RTreeNode T E)) → min (length ns) 1 + opens_within meets box_of ns ≡ own_meet_of meets box_of ns
own-started meets box_of [] = refl
own-started meets box_of (n ∷ ns) = omega arith

-- ---- a call of the walk

module _ {T E : Type 0} (v : Boxes E) (o : Objects T E) (meets : E → E → Bool) where
  pub advanced : (old new : SelfIntersectionIterator T E) → new.root.now ≡ old.root.now → new.lists.items ≡ old.lists.items → new.lists.capacity ≡ old.lists.capacity
      → HasItsLists v o meets old → GoesOn meets o.box_of o.box_of old.walk new.walk → HasItsLists v o meets new
  advanced old new root items capacity had on =
      let all = had.count + opens_by meets o.box_of o.box_of old.walk in
      let count = on.count all (record { count = had.count; counted = had.counted; whole = refl }) in
      let lists = subst (AreLists v o (had.height + 1)) (sym items) had.lists in
      search (arith, ap (opens_from_lists meets o.box_of) items, ap (own_meet meets o.box_of) root)

  -- a list was taken, and the walk begins with its first node and those behind it
  pub takes-list : (old new : SelfIntersectionIterator T E) {firsts behind : List (RTreeNode T E)} {opened : ℕ} (had : HasItsLists v o meets old) → IsIdle old.walk
      → IsTaken v o meets (had.height + 1) old.lists.items new.lists.items firsts behind opened → new.lists.capacity ≡ old.lists.capacity → new.root.now ≡ old.root.now
      → IsWalk meets o.box_of o.box_of new.walk → new.walk.path.capacity ≡ old.walk.path.capacity → pairs_by meets o.box_of o.box_of new.walk ≡ all_pairs meets o.box_of o.box_of firsts behind
      → opens_by meets o.box_of o.box_of new.walk ≡ all_opens meets o.box_of o.box_of firsts behind → ((n : ℕ) → old.walk.opened ≡ min n usize_max → new.walk.opened ≡ min (n + opened) usize_max)
      → IsEntered v o meets old true new
  takes-list old new {opened = opened} had idle taken fits root walk room pairs opens more = record {
    lists = record {
      walk = walk;
      height = had.height;
      room = omega (arith, had.room, room);
      lists = taken.lists;
      fits = omega (arith, had.fits, fits);
      count = had.count + opened;
      counted = more had.count had.counted;
      all = omega (arith, had.all, taken.opens, idle-opens meets o.box_of o.box_of old.walk idle, opens, ap (own_meet meets o.box_of) root);
    };
    root = root;
    given = (λ i. idle-pairs meets o.box_of o.box_of old.walk idle i ++ taken.pairs i) ∙ ap (λ l. l ++ pairs_from_lists meets o.box_of new.lists.items) (sym pairs);
    nearer = λ _. taken.nearer;
    over = λ e. absurd (true≢false e);
  }

  pub gave : (start old new : SelfIntersectionIterator T E) (p : Bor T × Bor T) → old.root.now ≡ start.root.now → own_pairs meets o.box_of start ≡ own_pairs meets o.box_of old
      → new.root.now ≡ old.root.now → new.lists.items ≡ old.lists.items → new.lists.capacity ≡ old.lists.capacity
      → HasItsLists v o meets old → IsNextPair meets o.box_of o.box_of old.walk (Some p) new.walk → GivesOwnPair v o meets start (Some p) new
  unfolding own_to_come IsSelfJoining
  gave start old new p from same root items capacity had next =
      let has = advanced old new root items capacity had next.on in
      record {
        gives = same ∙ (λ i. next.given i ++ pairs_from_lists meets o.box_of (sym items i));
        root = root ∙ from;
        joining = has;
        ended = tt;
        at_most = omega (arith, has.all, has.counted, ap (own_meet meets o.box_of) (root ∙ from));
      }
