-- What the steps of a search keep.
use Rattle.std.proofs.Common.{Equal, ◌≡◌, ℕ, ◌+◌, ◌≤◌, ◌≤ℤ◌, min, ℤ, pos, Bool, false, List, [], ◌∷◌, ◌++◌, sum_by, refl, ap, sym, ◌∙◌, arith, if◌then◌else◌, nat_lt, append_assoc}
use Rattle.std.specs.Borrow.{Bor}
use Rattle.std.specs.List.{AllByRecursion}
use Rattle.std.specs.List.Sorted.{IsPermutation}
use Rattle.std.specs.Ordering.{is_lt, int_cmp, ordering_then}
use Rattle.std.specs.declared.cmp.Ordering.{Ordering}
use Rattle.std.proofs.lemmas.List.Sorted.{IsPermutation-trans, IsPermutation-sym, IsPermutation-map, IsPermutation-append_comm, IsPermutation-push_more, sum_by-IsPermutation, sum_by_popped, Contains-permutation}
use Rattle.std.proofs.lemmas.List.Elements.{All-from_recursion, All-contains}
use Rattle.std.proofs.lemmas.List.Sums.{sum_by-append, sum_by-le-sum_by}
use Rattle.std.proofs.lemmas.List.Concat.{flat_map-append}
use Rattle.std.proofs.lemmas.Bool.Decides.{nat_tests}
use Rattle.std.proofs.lemmas.Cmp.{int_cmp_total, tied_itself}
use Rattle.std.proofs.lemmas.Int.{ints}
use Rattle.rstar_base.specs.Envelopes.{Boxes}
use Rattle.rstar_base.specs.Elements.{Objects, Distances}
use Rattle.rstar_base.proofs.Along.{IsPermutation-flat_map}
use Rattle.rstar_base.proofs.Lists.{all-append, all_along}
use Rattle.rstar.specs.declared.node.RTreeNode.{RTreeNode, Leaf, Parent, Parent', Row_of-RTreeNode, end_of-RTreeNode, more_of-RTreeNode}
use Rattle.rstar.specs.declared.node.ParentNode.{ParentNode}
use Rattle.rstar.specs.declared.algorithm.nearest_neighbor.waiting.Waiting.{Waiting}
use Rattle.rstar.specs.Nodes.{fold_tree, fold_row, total, elements, parents, far, all_elements, all_parents, all_far, far_of, IsTight, AreWhole, children_of, envelope_of}
use Rattle.rstar_base.specs.Counts.{usize_max}
use Rattle.rstar.specs.inside.Searches.{Item, nearest_on_top, waiting_nodes, distance_of, AreWholeNodes, CountsOpenings, IsFarKept}
use Rattle.rstar.proofs.searching.Nearness.{IsMeasured, IsPart, lower, above-node, above-Parent, parts}
use Rattle.rstar.proofs.trees.ByChildren.{elements-Parent, parents-Parent, far-Parent, elements-Leaf, far-Leaf, node_distance-Leaf, node_distance-Parent}

-- ---- which comes first

not-less : (a b : ℤ) → is_lt (int_cmp a b) ≡ false → b ≤ℤ a
not-less a b h = grind (arith, ints)

then-first : (a b : Ordering) → is_lt (ordering_then a b) ≡ false → is_lt a ≡ false
then-first a b e = grind arith

-- what is not less is no farther
pub no-farther : {N S O : Type 0} (value : S → ℤ) (compare : S → S → Ordering) (ties : N → N → Ordering) (order : (a b : S) → compare a b ≡ int_cmp (value a) (value b)) (w u : Waiting (Bor N) S O)
    → is_lt (nearest_on_top compare ties w u) ≡ false → value w.distance ≤ℤ value u.distance
no-farther value compare ties order w u h = not-less (value u.distance) (value w.distance) (sym (ap is_lt (order u.distance w.distance)) ∙ then-first (compare u.distance w.distance) (ties u.node.now w.node.now) h)

-- the greatest of a heap is the nearest, and no other at its distance comes before it
pub first-nodes : {T E S O : Type 0} (near : RTreeNode T E → ℕ) (value : S → ℤ) (compare : S → S → Ordering) (ties : RTreeNode T E → RTreeNode T E → Ordering) (order : (a b : S) → compare a b ≡ int_cmp (value a) (value b)) (w : Item T E S O) (us : List (Item T E S O))
    → value w.distance ≡ pos (near w.node.now) → AllByRecursion (λ (u : Item T E S O). value u.distance ≡ pos (near u.node.now)) us → AllByRecursion (λ (u : Item T E S O). is_lt (nearest_on_top compare ties w u) ≡ false) us
    → AllByRecursion (λ c. (near w.node.now ≤ near c) × (near c ≡ near w.node.now → is_lt (ties c w.node.now) ≡ false)) (waiting_nodes us)
first-nodes near value compare ties order w [] e h k = tt
first-nodes near value compare ties order w (u ∷ us) e h k =
    let own = h.0 in
    let far = no-farther value compare ties order w u k.0 in
    let tied : near u.node.now ≡ near w.node.now → compare u.distance w.distance ≡ Equal = λ same.
    order u.distance w.distance ∙ ap (λ z. int_cmp z (value w.distance)) (own ∙ ap pos same ∙ sym e) ∙ tied_itself int_cmp_total (value w.distance) in (
      (omega (arith, ints, far, own, e), λ same. sym (ap (λ o. is_lt (ordering_then o (ties u.node.now w.node.now))) (tied same)) ∙ k.0),
      first-nodes near value compare ties order w us e h.1 k.1,
    )

-- one more item waits
pub added-push : {T E S O : Type 0} (old xs : List (RTreeNode T E)) (w : Item T E S O) (ws us : List (Item T E S O)) → IsPermutation (old ++ xs) (waiting_nodes ws) → IsPermutation (w ∷ ws) us → IsPermutation (old ++ (xs ++ w.node.now ∷ [])) (waiting_nodes us)
added-push {T} {E} {S} {O} old xs w ws us h put =
    rw (← append_assoc old xs (w.node.now ∷ [])) (IsPermutation-push_more (old ++ xs) (waiting_nodes ws) (waiting_nodes us) w.node.now h (IsPermutation-map (λ (v : Item T E S O). v.node.now) (w ∷ ws) us put))

-- ---- parents that wait

pub parents-Leaf : (T E : Type 0) (t : T) → parents {E = E} (Leaf t) ≡ 0
unfolding parents fold_tree
parents-Leaf T E t = refl

not-counted : (a b : ℕ) → b ≤ a → ◌≡◌ {A = ℕ} (if nat_lt a b then 1 else 0) 0
not-counted a b h = grind (arith, nat_tests)

one-more : (b : Bool) (x y : ℕ) → x ≤ y → (if b then 1 else 0) + x ≤ 1 + y
one-more b x y le = grind arith

-- of the parents, those that are farther than some distance are no more than all
module _ {T E : Type 0} (dist : E → ℕ) (m : ℕ) where
  mutual
    unfolding far parents fold_tree

    far-fewer : (n : RTreeNode T E) → far dist m n ≤ parents n
    far-fewer (Leaf t) = omega arith
    far-fewer (Parent' shape children envelope) = one-more (nat_lt m (dist envelope)) _ _ (far-row children)

    far-row : {k : _} (row : Row_of-RTreeNode T E k)
        → total (fold_row (λ t. 0) (λ e below. (if nat_lt m (dist e) then 1 else 0) + total below) row) ≤ total (fold_row (λ t. 0) (λ e below. 1 + total below) row)
    far-row end_of-RTreeNode = omega arith
    far-row (more_of-RTreeNode node rest) = let one = far-fewer node in let others = far-row rest in omega (arith, one, others)

  pub all-far-fewer : (ns : List (RTreeNode T E)) → all_far dist m ns ≤ all_parents ns
  all-far-fewer ns = sum_by-le-sum_by (far dist m) parents ns far-fewer

-- the root alone
pub fresh-counted : {T E : Type 0} (root : ParentNode T E) → CountsOpenings root (Parent root ∷ []) 0
fresh-counted root = let one = parents-Parent root in record { fewer = omega arith; counts = omega arith }

pub fresh-far : {T E : Type 0} (v : Boxes E) (d : Distances T) (p : List ℤ) (root : ParentNode T E) → IsFarKept v d p root (Parent root ∷ [])
fresh-far v d p root = λ n far in' le. let all = far-Parent (λ e. v.distance_2 e p) far root in omega arith

-- ---- what waits after a step

module _ {T E : Type 0} {IsPoint : List ℤ → Type 0} {v : Boxes E} {o : Objects T E} {d : Distances T} {p : List ℤ} (law : IsMeasured IsPoint v o d p) where
  abbrev dist : E → ℕ
  dist e = v.distance_2 e p

  abbrev near : RTreeNode T E → ℕ
  near = distance_of v d p

module _ {T E : Type 0} {IsPoint : List ℤ → Type 0} {v : Boxes E} {o : Objects T E} {d : Distances T} {p : List ℤ} (law : IsMeasured IsPoint v o d p) where
  -- where no waiting node is nearer than m, no element is
  above-all : (m : ℕ) (ns : List (RTreeNode T E)) → AreWholeNodes v o ns → AllByRecursion (λ c. m ≤ near law c) ns → AllByRecursion (λ t. m ≤ d.distance_2 t p) (all_elements ns)
  above-all m [] h k = tt
  above-all m (n ∷ ns) h k = all-append (λ t. m ≤ d.distance_2 t p) (elements n) (all_elements ns) (lower (λ t. d.distance_2 t p) m _ (elements n) k.0 (above-node law n h.0)) (above-all m ns h.1 k.1)

  -- where what waits is no nearer than what waited, as many far parents wait
  far-kept : (root : ParentNode T E) {old rest : List (RTreeNode T E)} (new : List (RTreeNode T E)) (n : RTreeNode T E) → IsPermutation old (n ∷ rest) → AllByRecursion (λ c. near law n ≤ near law c) new
      → ((m : ℕ) → near law n ≤ m → all_far (dist law) m new ≡ all_far (dist law) m old) → IsFarKept v d p root old → IsFarKept v d p root new
  far-kept root {old = old} {rest = rest} new n popped least same s = λ c m in' le.
      let over : near law n ≤ near law c = All-contains (λ c. near law n ≤ near law c) new c (All-from_recursion _ new least) in' in
      let close : near law n ≤ m = omega (arith, over, le) in
      same m close ∙ s n m (Contains-permutation (n ∷ rest) old n (IsPermutation-sym _ _ popped) (0, omega arith, refl)) close

  -- a parent that waited is opened
  module _ {old rest new : List (RTreeNode T E)} (q : ParentNode T E) (popped : IsPermutation old (Parent q ∷ rest)) (put : IsPermutation (rest ++ children_of q) new) where
    opened-sum : (f : RTreeNode T E → ℕ) → sum_by f new + f (Parent q) ≡ sum_by f old + sum_by f (children_of q)
    opened-sum f = omega (arith, sum_by_popped f (Parent q) old rest popped, sum_by-IsPermutation f (rest ++ children_of q) new put, sum_by-append f rest (children_of q))

    pub fewer-parents : 1 + all_parents new ≡ all_parents old
    fewer-parents = omega (arith, opened-sum parents, parents-Parent q)

    pub same-elements : IsPermutation (all_elements old) (all_elements new)
    same-elements =
        let front = rw (elements-Parent q) at (IsPermutation-flat_map elements old (Parent q ∷ rest) popped) in
        let back = rw (flat_map-append elements rest (children_of q)) at (IsPermutation-flat_map elements (rest ++ children_of q) new put) in
        IsPermutation-trans _ _ _ front (IsPermutation-trans _ _ _ (IsPermutation-append_comm (all_elements (children_of q)) (all_elements rest)) back)

    pub counted-parent : {root : ParentNode T E} {opened more : ℕ} → more ≡ min (opened + 1) usize_max → CountsOpenings root old opened → CountsOpenings root new more
    counted-parent is s = record { fewer = omega (arith, fewer-parents, s.fewer); counts = omega (arith, fewer-parents, s.fewer, s.counts, is) }

    module _ (h : ℕ) (below : AreWhole v o h (children_of q)) where
      pub parts-parent : AreWholeNodes v o rest → AreWholeNodes v o new
      parts-parent w = all_along (IsPart law) (rest ++ children_of q) new put (all-append (IsPart law) rest (children_of q) w (parts law h (children_of q) below))

      pub far-parent : (root : ParentNode T E) → IsTight v o q → AllByRecursion (λ c. near law (Parent q) ≤ near law c) rest → IsFarKept v d p root old → IsFarKept v d p root new
      far-parent root tight least =
          let own : near law (Parent q) ≡ dist law (envelope_of q) = node_distance-Parent (dist law) (λ t. d.distance_2 t p) q in
          let children : AllByRecursion (λ c. near law (Parent q) ≤ near law c) (children_of q) = rw own (above-Parent law q h tight below) in
          far-kept root new (Parent q) popped (all_along (λ c. near law (Parent q) ≤ near law c) (rest ++ children_of q) new put (all-append (λ c. near law (Parent q) ≤ near law c) rest (children_of q) least children))
          (λ m le. omega (arith, opened-sum (far (dist law) m), far-Parent (dist law) m q, not-counted m (dist law (envelope_of q)) (omega (arith, own, le))))

  -- an element that waited is given
  module _ {old rest : List (RTreeNode T E)} (t : T) (popped : IsPermutation old (Leaf t ∷ rest)) where
    mine : near law (Leaf t) ≡ d.distance_2 t p
    mine = node_distance-Leaf T E (dist law) (λ t. d.distance_2 t p) t

    far-leaf : (m : ℕ) → all_far (dist law) m rest ≡ all_far (dist law) m old
    far-leaf m = omega (arith, sum_by_popped (far (dist law) m) (Leaf t) old rest popped, far-Leaf T E (dist law) m t)

    pub far-given : (root : ParentNode T E) → IsFarKept v d p root old → all_far (dist law) (d.distance_2 t p) rest ≡ far_of (dist law) (d.distance_2 t p) root
    far-given root s = far-leaf (d.distance_2 t p) ∙ s (Leaf t) (d.distance_2 t p) (Contains-permutation (Leaf t ∷ rest) old (Leaf t) (IsPermutation-sym _ _ popped) (0, omega arith, refl)) (omega (arith, mine))

    pub bag-given : IsPermutation (all_elements old) (t ∷ all_elements rest)
    bag-given = rw (elements-Leaf T E t) at (IsPermutation-flat_map elements old (Leaf t ∷ rest) popped)

    pub counted-leaf : {root : ParentNode T E} {opened : ℕ} → CountsOpenings root old opened → CountsOpenings root rest opened
    counted-leaf s =
        let same : all_parents rest ≡ all_parents old = omega (arith, sum_by_popped parents (Leaf t) old rest popped, parents-Leaf T E t) in
        record { fewer = omega (arith, same, s.fewer); counts = omega (arith, same, s.counts) }

    module _ (least : AllByRecursion (λ c. near law (Leaf t) ≤ near law c) rest) where
      pub least-given : AreWholeNodes v o rest → AllByRecursion (λ u. d.distance_2 t p ≤ d.distance_2 u p) (all_elements rest)
      least-given whole = above-all (d.distance_2 t p) rest whole (rw mine at least)

      pub far-rest : (root : ParentNode T E) → IsFarKept v d p root old → IsFarKept v d p root rest
      far-rest root = far-kept root rest (Leaf t) popped least (λ m _. far-leaf m)
