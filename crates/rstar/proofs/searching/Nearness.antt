-- No element is nearer than its node, and no child than its parent; some element is within a node's min-max distance.
use Rattle.std.proofs.Common.{◌≡◌, ◌≢◌, inl, inr, ℕ, ℤ, zero, suc, ◌<◌, ◌≤◌, false, List, [], ◌∷◌, length, length-append, refl, ap, sym, ◌∙◌, subst, arith}
use Rattle.std.specs.List.{AllByRecursion}
use Rattle.std.proofs.lemmas.Bool.{cases_lt, false_from_ne_true}
use Rattle.std.proofs.lemmas.List.{nil_from_length}
use Rattle.rstar_base.specs.Envelopes.{Boxes, EnvelopeLaws}
use Rattle.rstar_base.specs.Elements.{Objects, ObjectLaws, Distances, DistanceLaws}
use Rattle.rstar_base.specs.Hulls.{hull}
use Rattle.rstar_base.specs.laws.BoxLaws.{differ}
use Rattle.rstar_base.proofs.Lists.{all_map}
use Rattle.rstar_base.proofs.Hulls.{hull-value, hull-single}
use Rattle.rstar.specs.declared.node.RTreeNode.{RTreeNode, Leaf, Parent}
use Rattle.rstar.specs.declared.node.ParentNode.{ParentNode}
use Rattle.rstar.specs.Nodes.{elements, all_elements, elements_of, children_of, envelope_of, node_box, IsTree, IsElement, IsInner, IsTight, AreWhole, IsWhole}
use Rattle.rstar.specs.inside.Searches.{AreWholeNodes, distance_of}
use Rattle.rstar.proofs.trees.ByChildren.{no_leaf, parent_of, is_leaf, is_parent, elements-Leaf, elements-Parent, node_box-Leaf, node_box-Parent, node_distance-Leaf, node_distance-Parent}
use Rattle.rstar.proofs.trees.Trees.{sound, all_sound, box_is_hull, merged_is_hull, values-of}

-- ---- the merge of some envelopes, each of a value a that meets Q

-- a lower bound of all is one where it is less
pub lower : {A : Type 0} (f : A → ℕ) (m n : ℕ) (xs : List A) → m ≤ n → AllByRecursion (λ a. n ≤ f a) xs → AllByRecursion (λ a. m ≤ f a) xs
lower f m n xs le = all_map (λ a. n ≤ f a) (λ a. m ≤ f a) (λ a h. omega (arith, le, h)) xs

module _ {A E : Type 0} {IsPoint : List ℤ → Type 0} {v : Boxes E} (laws : EnvelopeLaws IsPoint v) (box : A → E) (Q : A → Type 0)
    (value : (a : A) → Q a → v.IsValue (box a)) (full : (a : A) → Q a → v.is_empty (box a) ≡ false) where
  values : (xs : List A) → AllByRecursion Q xs → AllByRecursion (λ a. v.IsValue (box a)) xs
  values = all_map Q (λ a. v.IsValue (box a)) value

  pub hull_full : (a : A) (xs : List A) → AllByRecursion Q (a ∷ xs) → v.is_empty (hull v box (a ∷ xs)) ≡ false
  hull_full a xs h =
      false_from_ne_true (v.is_empty (hull v box (a ∷ xs)))
      (λ e. differ _ (laws.merge_is_empty (box a) (hull v box xs) (value a h.0) (hull-value laws box xs (values xs h.1)) e).0 (full a h.0))

  module _ (p : List ℤ) (is : IsPoint p) (f : A → ℕ) where
    -- nothing is nearer than the merge of all
    hull_above : ((a : A) → Q a → v.distance_2 (box a) p ≤ f a) → (xs : List A) → AllByRecursion Q xs → AllByRecursion (λ a. v.distance_2 (hull v box xs) p ≤ f a) xs
    hull_above near [] h = tt
    hull_above near (a ∷ []) h = (subst (λ e. v.distance_2 e p ≤ f a) (sym (hull-single laws box a (value a h.0))) (near a h.0), tt)
    hull_above near (a ∷ b ∷ bs) h =
        let rest = hull-value laws box (b ∷ bs) (values (b ∷ bs) h.1) in
        let first = laws.merge_distance (box a) (hull v box (b ∷ bs)) p is (value a h.0) rest (full a h.0) in
        let second = laws.merge_distance (hull v box (b ∷ bs)) (box a) p is rest (value a h.0) (hull_full b bs h.1) in
        let swapped = subst (λ e. v.distance_2 e p ≤ v.distance_2 (hull v box (b ∷ bs)) p) (laws.merge_comm (hull v box (b ∷ bs)) (box a) rest (value a h.0)) second in
        (omega (arith, first, near a h.0), lower f _ _ (b ∷ bs) swapped (hull_above near (b ∷ bs) h.1))

    -- not all of some are farther than a limit that is at least their merge's min-max distance
    hull_within : ((a : A) → Q a → f a ≤ v.min_max_dist_2 (box a) p) → (xs : List A) → xs ≢ [] → AllByRecursion Q xs → (m : ℕ) → v.min_max_dist_2 (hull v box xs) p ≤ m → AllByRecursion (λ a. m < f a) xs → ⊥
    hull_within within [] some h m le far = some refl
    hull_within within (a ∷ []) some h m le far =
        absurd (omega (arith, ap (λ e. v.min_max_dist_2 e p) (hull-single laws box a (value a h.0)), within a h.0, far.0))
    hull_within within (a ∷ b ∷ bs) some h m le far =
        let rest = hull-value laws box (b ∷ bs) (values (b ∷ bs) h.1) in
        elim (cases_lt m (v.min_max_dist_2 (hull v box (b ∷ bs)) p)) [
          | inl beyond ↦ absurd (omega (arith, laws.merge_min_max (box a) (hull v box (b ∷ bs)) p is (value a h.0) rest (full a h.0) (hull_full b bs h.1), within a h.0, far.0))
          | inr near ↦ hull_within within (b ∷ bs) (λ e. cc) h.1 m near far.1
        ]

-- ---- the laws of envelopes and elements, at one point

pub record IsMeasured {T E : Type 0} (IsPoint : List ℤ → Type 0) (v : Boxes E) (o : Objects T E) (d : Distances T) (p : List ℤ) : Type 0 where
  pub laws : EnvelopeLaws IsPoint v
  pub ok : ObjectLaws v o
  pub near : DistanceLaws IsPoint v o d
  pub point : IsPoint p

module _ {T E : Type 0} {IsPoint : List ℤ → Type 0} {v : Boxes E} {o : Objects T E} {d : Distances T} {p : List ℤ} (law : IsMeasured IsPoint v o d p) where
  above-elements : (ts : List T) → AllByRecursion (IsElement v o) ts → AllByRecursion (λ t. v.distance_2 (hull v o.box_of ts) p ≤ d.distance_2 t p) ts
  above-elements = hull_above law.laws o.box_of (IsElement v o) (λ t h. law.ok t h.0) (λ t h. h.1) p law.point (λ t. d.distance_2 t p) (λ t h. law.near.near t p law.point h.0 h.1)

  within-elements : (ts : List T) → ts ≢ [] → AllByRecursion (IsElement v o) ts → (m : ℕ) → v.min_max_dist_2 (hull v o.box_of ts) p ≤ m → AllByRecursion (λ t. m < d.distance_2 t p) ts → ⊥
  within-elements = hull_within law.laws o.box_of (IsElement v o) (λ t h. law.ok t h.0) (λ t h. h.1) p law.point (λ t. d.distance_2 t p) (λ t h. law.near.within t p law.point h.0 h.1)

-- ---- nodes

-- what holds of each leaf, and of a parent if it holds of its children, holds of each whole node
module _ {T E : Type 0} (v : Boxes E) (o : Objects T E) (P : RTreeNode T E → Type 0) (leaf : (t : T) → IsElement v o t → P (Leaf t))
    (parent : (h : ℕ) (q : ParentNode T E) → IsInner v o q → AllByRecursion (λ n. IsTree (IsInner v o) (IsElement v o) h n × P n) (children_of q) → AreWhole v o h (children_of q) → P (Parent q)) where
  pub by-tree : (h : ℕ) (n : RTreeNode T E) → IsTree (IsInner v o) (IsElement v o) h n → P n
  by-tree zero n w = let l = is_leaf (IsElement v o) n w in subst P (sym l.1) (leaf l.0 l.2)
  by-tree (suc h) n w =
      let q = is_parent _ n w in
      subst P (sym q.1) (parent h q.0 q.2.0 (all_map (IsTree (IsInner v o) (IsElement v o) h) (λ n. IsTree (IsInner v o) (IsElement v o) h n × P n) (λ n w. (w, by-tree h n w)) (children_of q.0) q.2.1) q.2.1)

module _ {T E : Type 0} {IsPoint : List ℤ → Type 0} {v : Boxes E} {o : Objects T E} (laws : EnvelopeLaws IsPoint v) (ok : ObjectLaws v o) where
  -- the envelope of a whole node is a value, and not empty
  pub box-value : (h : ℕ) (n : RTreeNode T E) → IsTree (IsInner v o) (IsElement v o) h n → v.IsValue (node_box o.box_of n)
  box-value h n w = subst v.IsValue (sym (box_is_hull laws ok h n w)) (hull-value laws o.box_of (elements n) (values-of laws ok (elements n) (sound v o h n w)))

  pub full-box : (h : ℕ) (n : RTreeNode T E) → IsTree (IsInner v o) (IsElement v o) h n → v.is_empty (node_box o.box_of n) ≡ false
  full-box = by-tree v o (λ n. v.is_empty (node_box o.box_of n) ≡ false) (λ t full. rw (node_box-Leaf T E o.box_of t) full.1)
      (λ h q inner each below. rw (node_box-Parent o.box_of q ∙ inner.0 ∙ sym (merged_is_hull laws ok h (children_of q) below)) (some h (children_of q) inner.1 each))
    where
      some : (h : ℕ) (ns : List (RTreeNode T E)) → ns ≢ [] → AllByRecursion (λ n. IsTree (IsInner v o) (IsElement v o) h n × (v.is_empty (node_box o.box_of n) ≡ false)) ns → v.is_empty (hull v (node_box o.box_of) ns) ≡ false
      some h [] none all = absurd (none refl)
      some h (n ∷ ns) none all = hull_full laws (node_box o.box_of) (λ n. IsTree (IsInner v o) (IsElement v o) h n × (v.is_empty (node_box o.box_of n) ≡ false)) (λ n w. box-value h n w.0) (λ n w. w.1) n ns all

module _ {T E : Type 0} {IsPoint : List ℤ → Type 0} {v : Boxes E} {o : Objects T E} {d : Distances T} {p : List ℤ} (law : IsMeasured IsPoint v o d p) where
  abbrev at : RTreeNode T E → ℕ
  at = distance_of v d p

  -- a whole node of some height
  abbrev pub IsPart : RTreeNode T E → Type 0
  IsPart n = (h : ℕ) × IsTree (IsInner v o) (IsElement v o) h n

  at-Leaf : (t : T) → at (Leaf t) ≡ d.distance_2 t p
  at-Leaf = node_distance-Leaf T E (λ e. v.distance_2 e p) (λ t. d.distance_2 t p)

  at-Parent : (q : ParentNode T E) → at (Parent q) ≡ v.distance_2 (envelope_of q) p
  at-Parent = node_distance-Parent (λ e. v.distance_2 e p) (λ t. d.distance_2 t p)

  -- an element's or a parent's distance is at least that of its box
  part-near : (h : ℕ) (n : RTreeNode T E) → IsTree (IsInner v o) (IsElement v o) h n → v.distance_2 (node_box o.box_of n) p ≤ at n
  part-near = by-tree v o (λ n. v.distance_2 (node_box o.box_of n) p ≤ at n) (λ t is. rw (node_box-Leaf T E o.box_of t, at-Leaf t) (law.near.near t p law.point is.0 is.1))
      (λ h q inner each below. rw (node_box-Parent o.box_of q, at-Parent q) (omega arith))

  -- no element is nearer than its node
  pub above-node : (n : RTreeNode T E) → IsPart n → AllByRecursion (λ t. at n ≤ d.distance_2 t p) (elements n)
  above-node n w = by-tree v o (λ n. AllByRecursion (λ t. at n ≤ d.distance_2 t p) (elements n)) (λ t is. rw (elements-Leaf T E t, at-Leaf t) (omega arith, tt))
      (λ h q inner each below. rw (elements-Parent q, at-Parent q, inner.0) (above-elements law (elements_of q) (all_sound v o h (children_of q) below))) w.0 n w.1

  -- no child is nearer than its parent
  pub above-Parent : (q : ParentNode T E) (h : ℕ) → IsTight v o q → AreWhole v o h (children_of q) → AllByRecursion (λ c. v.distance_2 (envelope_of q) p ≤ at c) (children_of q)
  above-Parent q h tight below =
      let box = tight ∙ sym (merged_is_hull law.laws law.ok h (children_of q) below) in
      let all = hull_above law.laws (node_box o.box_of) (IsTree (IsInner v o) (IsElement v o) h) (box-value law.laws law.ok h) (full-box law.laws law.ok h) p law.point at (part-near h) (children_of q) below in
      subst (λ e. AllByRecursion (λ c. v.distance_2 e p ≤ at c) (children_of q)) (sym box) all

  -- the children of a parent
  pub parts : (h : ℕ) (ns : List (RTreeNode T E)) → AreWhole v o h ns → AreWholeNodes v o ns
  parts h = all_map (IsTree (IsInner v o) (IsElement v o) h) IsPart (λ n w. (h, w))

  -- a parent that waits is tight, with its children
  pub part-Parent : (q : ParentNode T E) → IsPart (Parent q) → (h : ℕ) × IsTight v o q × AreWhole v o h (children_of q)
  part-Parent q (zero, w) = absurd (no_leaf (IsElement v o) q w)
  part-Parent q (suc h, w) = let i = parent_of _ q w in (h, i.0.0, i.1)

  -- a whole node has an element
  some-elements : (h : ℕ) (n : RTreeNode T E) → IsTree (IsInner v o) (IsElement v o) h n → elements n ≢ []
  some-elements = by-tree v o (λ n. elements n ≢ []) (λ t is. rw (elements-Leaf T E t) (λ e. cc)) (λ h q inner each below. rw (elements-Parent q) (some h (children_of q) inner.1 each))
    where
      some : (h : ℕ) (ns : List (RTreeNode T E)) → ns ≢ [] → AllByRecursion (λ n. IsTree (IsInner v o) (IsElement v o) h n × (elements n ≢ [])) ns → all_elements ns ≢ []
      some h [] none all = absurd (none refl)
      some h (n ∷ ns) none all = λ e. all.0.1 (nil_from_length (elements n) (omega (arith, ap length e, length-append (elements n) (all_elements ns))))

  -- whole nodes have at least as many elements
  pub no-more-nodes : (ns : List (RTreeNode T E)) → AreWholeNodes v o ns → length ns ≤ length (all_elements ns)
  no-more-nodes [] w = omega arith
  no-more-nodes (n ∷ ns) w =
      let some : 0 < length (elements n) = elim (cases_lt 0 (length (elements n))) [
        | inl some ↦ some
        | inr none ↦ absurd (some-elements w.0.0 n w.0.1 (nil_from_length (elements n) (omega (arith, none))))
      ] in
      omega (arith, some, no-more-nodes ns w.1, length-append (elements n) (all_elements ns))

  -- not all elements of a node are farther than its min-max distance
  pub node-within : (n : RTreeNode T E) → IsPart n → (m : ℕ) → v.min_max_dist_2 (node_box o.box_of n) p ≤ m → AllByRecursion (λ t. m < d.distance_2 t p) (elements n) → ⊥
  node-within n w m le far =
      within-elements law (elements n) (some-elements w.0 n w.1) (sound v o w.0 n w.1) m
      (subst (λ e. v.min_max_dist_2 e p ≤ m) (box_is_hull law.laws law.ok w.0 n w.1) le) far

  -- the same of a root: its envelope's distance, and its envelope's min-max distance
  pub root-below : (root : ParentNode T E) → IsWhole v o root → AllByRecursion (λ t. v.distance_2 (envelope_of root) p ≤ d.distance_2 t p) (elements_of root)
  root-below root whole =
      subst (λ e. AllByRecursion (λ t. v.distance_2 e p ≤ d.distance_2 t p) (elements_of root)) (sym whole.tight)
      (above-elements law (elements_of root) (all_sound v o whole.height (children_of root) whole.below))

  pub root-within : (root : ParentNode T E) → IsWhole v o root → elements_of root ≢ [] → AllByRecursion (λ t. v.min_max_dist_2 (envelope_of root) p < d.distance_2 t p) (elements_of root) → ⊥
  root-within root whole some far =
      within-elements law (elements_of root) some (all_sound v o whole.height (children_of root) whole.below) (v.min_max_dist_2 (envelope_of root) p)
      (subst (λ e. v.min_max_dist_2 (hull v o.box_of (elements_of root)) p ≤ v.min_max_dist_2 e p) (sym whole.tight) (omega arith)) far
