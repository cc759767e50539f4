-- A change of elements that keeps their envelopes keeps a tree whole.
use Rattle.std.proofs.Common.{◌≡◌, ℕ, zero, suc, ◌<◌, List, [], ◌∷◌, length, slice_index_or, slice_set, map, refl, ap, sym, ◌∙◌, subst, arith, ◌^◌}
use Rattle.std.specs.List.{AllByRecursion, AllZip}
use Rattle.std.proofs.lemmas.List.{nil_from_length as nil-length}
use Rattle.std.proofs.lemmas.Slice.Zip.{AllZip-long}
use Rattle.rstar_base.specs.Envelopes.{Boxes}
use Rattle.rstar_base.specs.Elements.{Objects}
use Rattle.rstar_base.specs.Hulls.{hull}
use Rattle.rstar.specs.declared.node.RTreeNode.{RTreeNode, Leaf, Parent}
use Rattle.rstar.specs.declared.node.RTreeNode.TheVariants.{outs-Parent, outs-Leaf}
use Rattle.rstar.specs.declared.node.ParentNode.{ParentNode}
use Rattle.rstar.specs.declared.rtree.RTree.{RTree}
use Rattle.rstar.specs.Nodes.{layer_of, children_of, elements, all_elements, IsTree, IsInner, IsElement, IsWhole, AreWhole}
use Rattle.rstar.specs.Shapes.{IsAny}
use Rattle.rstar.specs.Heights.{levels_below}
use Rattle.rstar.specs.Shown.{row_of, shown, shown_root, outline, outline_row}
use Rattle.rstar.specs.inside.ParentBounds.{HasAtMost}
use Rattle.rstar.specs.Trees.{WholeTree, HasSameOutline, elements_in, root_of}
use Rattle.rstar.specs.inside.WaysDown.{child_at, change_at, change_below}
use Rattle.rstar.specs.Changes.{KeepsBox, IsChangedParent, IsChanged, IsChangedTree}
use Rattle.rstar.proofs.lists.Items.{AllZip-append, all_get}
use Rattle.rstar.proofs.selecting.Folds.{zip-fold, by_height}
use Rattle.rstar.proofs.trees.Heights.{levels_are}
use Rattle.rstar.proofs.trees.ByChildren.{is_leaf, is_parent, leaf_of, parent_of, IsLeafOf-Leaf, IsParentOf-Parent, elements-Leaf, elements-Parent, shown-Leaf, shown-Parent}

-- ---- pairs

pub AllZip-refl : {A : Type 0} (K : A → A → Type 0) (Q : A → Type 0) → ((x : A) → Q x → K x x) → (xs : List A) → AllByRecursion Q xs → AllZip K xs xs
AllZip-refl K Q one [] w = tt
AllZip-refl K Q one (x ∷ xs) w = (one x w.0, AllZip-refl K Q one xs w.1)

pub AllZip-set : {A B : Type 0} (K : A → B → Type 0) (xs : List A) (ys : List B) (i : ℕ) (d : A) (y : B) → AllZip K xs ys
    → (i < length xs → K (slice_index_or xs i d) y) → AllZip K xs (slice_set ys i y)
AllZip-set K [] [] i d y w one = tt
AllZip-set K [] (z ∷ ys) i d y w one = absurd w
AllZip-set K (x ∷ xs) [] i d y w one = absurd w
AllZip-set K (x ∷ xs) (z ∷ ys) zero d y w one = (one (omega arith), w.1)
AllZip-set K (x ∷ xs) (z ∷ ys) (suc i) d y w one = (w.0, AllZip-set K xs ys i d y w.1 (λ lt. one (omega arith)))

-- ---- what follows from a change

pub changed-Leaf : {T : Type 0} (E : Type 0) (K : T → T → Type 0) (t u : T) → K t u → IsChanged {E = E} K 0 (Leaf t) (Leaf u)
changed-Leaf {T} E K t u k = IsLeafOf-Leaf T E _ t (IsLeafOf-Leaf T E _ u k)

pub changed-Parent : {T E : Type 0} (K : T → T → Type 0) (h : ℕ) (p q : ParentNode T E) → IsChangedParent (IsChanged K h) p q → IsChanged K (suc h) (Parent p) (Parent q)
changed-Parent K h p q w = IsParentOf-Parent _ p (IsParentOf-Parent _ q w)

pub same_hull : {T E : Type 0} (v : Boxes E) (o : Objects T E) (ts us : List T) → AllZip (KeepsBox o) ts us → hull v o.box_of us ≡ hull v o.box_of ts
same_hull v o = zip-fold (KeepsBox o) (λ ts us. hull v o.box_of us ≡ hull v o.box_of ts) refl
    (λ t u ts us k same. ap (λ e. v.merge e (hull v o.box_of us)) k.0 ∙ ap (v.merge (o.box_of t)) same)

module _ {T E : Type 0} (K : T → T → Type 0) where
  -- what holds of leaves, and of parents by their children, holds of a node and what it was changed to
  module _ (P : ℕ → RTreeNode T E → RTreeNode T E → Type 0) (at_leaf : (t u : T) → K t u → P 0 (Leaf t) (Leaf u))
      (at_parent : (h : ℕ) → ((n m : RTreeNode T E) → IsChanged K h n m → P h n m) → (p q : ParentNode T E) → IsChangedParent (IsChanged K h) p q → P (suc h) (Parent p) (Parent q)) where
    each-changed : (h : ℕ) (n m : RTreeNode T E) → IsChanged K h n m → P h n m
    each-changed zero n m w =
        let l = is_leaf _ n w in let k = is_leaf _ m l.2 in
        subst (λ a. P 0 a m) (sym l.1) (subst (P 0 (Leaf l.0)) (sym k.1) (at_leaf l.0 k.0 k.2))
    each-changed (suc h) n m w =
        let p = is_parent _ n w in let q = is_parent _ m p.2 in
        subst (λ a. P (suc h) a m) (sym p.1) (subst (P (suc h) (Parent p.0)) (sym q.1) (at_parent h (each-changed h) p.0 q.0 q.2))

  -- the elements are pairs
  all-changed : (h : ℕ) → ((n m : RTreeNode T E) → IsChanged K h n m → AllZip K (elements n) (elements m))
      → (ns ms : List (RTreeNode T E)) → AllZip (IsChanged K h) ns ms → AllZip K (all_elements ns) (all_elements ms)
  all-changed h one = zip-fold (IsChanged K h) (λ ns ms. AllZip K (all_elements ns) (all_elements ms)) tt
      (λ n m ns ms w below. AllZip-append K (elements n) (all_elements ns) (elements m) (all_elements ms) (one n m w) below)

  changed-node : (h : ℕ) (n m : RTreeNode T E) → IsChanged K h n m → AllZip K (elements n) (elements m)
  changed-node = each-changed (λ h n m. AllZip K (elements n) (elements m)) (λ t u k. rw (elements-Leaf T E t, elements-Leaf T E u) (k, tt))
      (λ h one p q w. rw (elements-Parent p, elements-Parent q) (all-changed h one (children_of p) (children_of q) w.children))

  pub changed-below : (h : ℕ) (ns ms : List (RTreeNode T E)) → AllZip (IsChanged K h) ns ms → AllZip K (all_elements ns) (all_elements ms)
  changed-below h = all-changed h (changed-node h)

  -- the outline stays
  outlines-parent : (h : ℕ) → ((n m : RTreeNode T E) → IsChanged K h n m → outline (shown m) ≡ outline (shown n))
      → (p q : ParentNode T E) → IsChangedParent (IsChanged K h) p q → outline (shown_root q) ≡ outline (shown_root p)
  outlines-parent h one p q w = rw (w.envelope, all (children_of p) (children_of q) w.children)
    where
      all : (ns ms : List (RTreeNode T E)) → AllZip (IsChanged K h) ns ms → outline_row (row_of (map shown ms)) ≡ outline_row (row_of (map shown ns))
      all = zip-fold (IsChanged K h) (λ ns ms. outline_row (row_of (map shown ms)) ≡ outline_row (row_of (map shown ns))) refl (λ n m ns ms w below. rw (one n m w, below))

  outlines-node : (h : ℕ) (n m : RTreeNode T E) → IsChanged K h n m → outline (shown m) ≡ outline (shown n)
  outlines-node = each-changed (λ h n m. outline (shown m) ≡ outline (shown n)) (λ t u k. rw (shown-Leaf T E t, shown-Leaf T E u))
      (λ h one p q w. rw (shown-Parent p, shown-Parent q) (outlines-parent h one p q w))

  pub outline-changed : (h : ℕ) (p q : ParentNode T E) → IsChangedParent (IsChanged K h) p q → outline (shown_root q) ≡ outline (shown_root p)
  outline-changed h = outlines-parent h (outlines-node h)

  -- what K keeps of elements, and a changed parent of parents, is kept of a tree
  module _ (Q : ParentNode T E → Type 0) (R : T → Type 0) (kept : (t u : T) → K t u → R t → R u)
      (keeps : (h : ℕ) (p q : ParentNode T E) → IsChangedParent (IsChanged K h) p q → Q p → Q q) where
    trees-each : (h : ℕ) → ((n m : RTreeNode T E) → IsChanged K h n m → IsTree Q R h n → IsTree Q R h m)
        → (ns ms : List (RTreeNode T E)) → AllZip (IsChanged K h) ns ms → AllByRecursion (IsTree Q R h) ns → AllByRecursion (IsTree Q R h) ms
    trees-each h one = zip-fold (IsChanged K h) (λ ns ms. AllByRecursion (IsTree Q R h) ns → AllByRecursion (IsTree Q R h) ms) (λ is. is)
        (λ n m ns ms w below is. (one n m w is.0, below is.1))

    trees-node : (h : ℕ) (n m : RTreeNode T E) → IsChanged K h n m → IsTree Q R h n → IsTree Q R h m
    trees-node = each-changed (λ h n m. IsTree Q R h n → IsTree Q R h m) (λ t u k is. IsLeafOf-Leaf T E R u (kept t u k (leaf_of T E R t is)))
        (λ h one p q w is. let old = parent_of _ p is in IsParentOf-Parent _ q (keeps h p q w old.0, trees-each h one (children_of p) (children_of q) w.children old.1))

    pub trees-kept : (h : ℕ) (ns ms : List (RTreeNode T E)) → AllZip (IsChanged K h) ns ms → AllByRecursion (IsTree Q R h) ns → AllByRecursion (IsTree Q R h) ms
    trees-kept h = trees-each h (trees-node h)

pub element-kept : {T E : Type 0} (v : Boxes E) (o : Objects T E) (t u : T) → KeepsBox o t u → IsElement v o t → IsElement v o u
element-kept v o t u k is = (k.1 is.0, ap v.is_empty k.0 ∙ is.1)

module _ {T E : Type 0} (v : Boxes E) (o : Objects T E) where
  pub tight-kept : (h : ℕ) (p q : ParentNode T E) → IsChangedParent (IsChanged (KeepsBox o) h) p q
      → p.envelope ≡ hull v o.box_of (all_elements (children_of p)) → q.envelope ≡ hull v o.box_of (all_elements (children_of q))
  tight-kept h p q w tight = w.envelope ∙ tight ∙ sym (same_hull v o _ _ (changed-below (KeepsBox o) h (children_of p) (children_of q) w.children))

  inner-kept : (h : ℕ) (p q : ParentNode T E) → IsChangedParent (IsChanged (KeepsBox o) h) p q → IsInner v o p → IsInner v o q
  inner-kept h p q w is =
      let long = AllZip-long (IsChanged (KeepsBox o) h) (children_of p) (children_of q) w.children in
      (tight-kept h p q w is.0, λ none. is.1 (nil-length _ (let e = ap length none in omega arith)))

  -- there are as many levels
  levels-kept : (h : ℕ) (ns ms : List (RTreeNode T E)) → AllZip (IsChanged (KeepsBox o) h) ns ms → AreWhole v o h ns → AreWhole v o h ms → levels_below ms ≡ levels_below ns
  levels-kept h [] [] w old new = refl
  levels-kept h [] (m ∷ ms) w old new = absurd w
  levels-kept h (n ∷ ns) [] w old new = absurd w
  levels-kept h (n ∷ ns) (m ∷ ms) w old new = levels_are (IsInner v o) (IsElement v o) (λ p q. q.1) h (m ∷ ms) (λ none. cc) new ∙ sym (levels_are (IsInner v o) (IsElement v o) (λ p q. q.1) h (n ∷ ns) (λ none. cc) old)

  pub same-outline : {P S X D : Type 0} (h : ℕ) (old new : RTree T D E P S X) → IsChangedTree (KeepsBox o) h old new → HasSameOutline old new
  same-outline h old new w = record { outline = outline-changed (KeepsBox o) h old.root new.root w.root; size = w.size }

  -- a whole root stays whole
  pub root-kept : (old new : ParentNode T E) (whole : IsWhole v o old) → IsChangedParent (IsChanged (KeepsBox o) whole.height) old new → IsWhole v o new
  root-kept old new whole w = record {
    height = whole.height;
    tight = tight-kept whole.height old new w whole.tight;
    below = trees-kept (KeepsBox o) (IsInner v o) (IsElement v o) (element-kept v o) inner-kept whole.height (children_of old) (children_of new) w.children whole.below;
  }

  -- a whole tree stays whole
  pub whole-kept : {P S X D : Type 0} (max : ℕ) (old new : RTree T D E P S X) (whole : WholeTree v o max old)
      → IsChangedTree (KeepsBox o) whole.root_whole.height old new → WholeTree v o max new
  unfolding root-kept
  whole-kept max old new whole w =
      let h = whole.root_whole.height in let root = root-kept old.root new.root whole.root_whole w.root in
      let few = AllZip-long (IsChanged (KeepsBox o) h) (children_of (root_of old)) (children_of (root_of new)) w.root.children in
      let many = AllZip-long (KeepsBox o) (elements_in old) (elements_in new) (changed-below (KeepsBox o) h (children_of (root_of old)) (children_of (root_of new)) w.root.children) in
      record {
        root_whole = root;
        counted = w.size ∙ whole.counted ∙ sym many;
        leveled = w.levels ∙ whole.leveled ∙ sym (levels-kept h (children_of (root_of old)) (children_of (root_of new)) w.root.children whole.root_whole.below root.below);
        low = subst (λ n. n < 2 ^ 64) (sym w.levels) whole.low;
        wide = rw w.reserve whole.wide;
        wide_fits = rw w.reserve whole.wide_fits;
        narrow = let a = whole.narrow in let e = ap (λ r. r.widest) w.reserve in omega arith;
        narrow_below = rw w.reserve
            (trees-kept (KeepsBox o) (HasAtMost old.reserve.widest) IsAny (λ t u k a. tt) (narrow-kept old.reserve.widest) h (children_of (root_of old)) (children_of (root_of new)) w.root.children whole.narrow_below);
        spares = rw w.reserve whole.spares;
        none_over = rw w.reserve whole.none_over;
      }
    where
      narrow-kept : (widest h : ℕ) (p q : ParentNode T E) → IsChangedParent (IsChanged (KeepsBox o) h) p q → HasAtMost widest p → HasAtMost widest q
      narrow-kept widest h p q w is = let e = AllZip-long (IsChanged (KeepsBox o) h) (children_of p) (children_of q) w.children in omega arith

-- ---- a change at the end of a way

module _ {T E : Type 0} (K : T → T → Type 0) (same : (t : T) → K t t) (Q : ParentNode T E → Type 0) (R : T → Type 0) where
  -- no change
  nodes-refl : (h : ℕ) (n : RTreeNode T E) → IsTree Q R h n → IsChanged K h n n
  nodes-refl = by_height Q R (λ h n. IsChanged K h n n) (λ t r. changed-Leaf E K t t (same t))
      (λ h one p q w. changed-Parent K h p p (record { envelope = refl; children = AllZip-refl (IsChanged K h) (IsTree Q R h) one (children_of p) w }))

  pub changed-refl : (h : ℕ) (ns : List (RTreeNode T E)) → AllByRecursion (IsTree Q R h) ns → AllZip (IsChanged K h) ns ns
  changed-refl h = AllZip-refl (IsChanged K h) (IsTree Q R h) (nodes-refl h)

  module _ (way : ParentNode T E → ℕ) (f : T → T) (kept : (t : T) → K t (f t)) where
    parent-changed : (h : ℕ) → ((n : RTreeNode T E) → IsTree Q R h n → IsChanged K h n (change_at way f h (layer_of n)))
        → (p : ParentNode T E) → AllByRecursion (IsTree Q R h) (children_of p) → IsChangedParent (IsChanged K h) p (change_below way f h p)
    parent-changed h one p w = record {
      envelope = refl;
      children = AllZip-set (IsChanged K h) (children_of p) (children_of p) (way p) (Parent p) _ (changed-refl h (children_of p) w)
          (λ lt. one (child_at p (way p)) (all_get (IsTree Q R h) (children_of p) (way p) (Parent p) lt w));
    }

    at-changed : (h : ℕ) (n : RTreeNode T E) → IsTree Q R h n → IsChanged K h n (change_at way f h (layer_of n))
    at-changed = by_height Q R (λ h n. IsChanged K h n (change_at way f h (layer_of n))) (λ t r. rw outs-Leaf (changed-Leaf E K t (f t) (kept t)))
        (λ h one p q w. rw outs-Parent (changed-Parent K h p (change_below way f h p) (parent-changed h one p w)))

    pub below-changed : (h : ℕ) (p : ParentNode T E) → AllByRecursion (IsTree Q R h) (children_of p) → IsChangedParent (IsChanged K h) p (change_below way f h p)
    below-changed h = parent-changed h (at-changed h)
