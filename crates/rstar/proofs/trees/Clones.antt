-- Clones of nodes, and of whole trees.
use Rattle.std.proofs.Common.{◌≡◌, ℕ, zero, suc, List, [], ◌∷◌, map, refl, ap, ap₂, subst, flat_map}
use Rattle.std.specs.List.{AllByRecursion, AllZip}
use Rattle.rstar_base.specs.Envelopes.{Boxes}
use Rattle.rstar_base.specs.Elements.{Objects}
use Rattle.rstar.specs.declared.node.RTreeNode.{RTreeNode, Leaf, Parent}
use Rattle.rstar.specs.declared.node.ParentNode.{ParentNode}
use Rattle.rstar.specs.declared.rtree.RTree.{RTree}
use Rattle.rstar.specs.Nodes.{elements, elements_of, children_of}
use Rattle.rstar.specs.Shown.{shown, shown_root, leaf, parent, more, row_of, outline, outline_row}
use Rattle.rstar.specs.inside.Traversals.{IsLevel}
use Rattle.rstar.specs.Trees.{IsUnchanged, IsWholeTree}
use Rattle.rstar.specs.Clones.{ClonesEqual, IsNodeClone, IsParentClone}
use Rattle.rstar.proofs.inserting.Insertion.{trees_map}
use Rattle.rstar.proofs.lists.Items.{AllZip-append, zip_along}
use Rattle.rstar.proofs.trees.ByChildren.{elements-Leaf, elements-Parent, shown-Leaf, shown-Parent, parent_of, no_leaf, no_parent}
use Rattle.rstar.proofs.trees.Shown.{whole-alike}

module _ {T E : Type 0} (is_clone : T → T → Type 0) where
  -- the elements of clones are clones, in their places
  elements_each : (h : ℕ) → ((m n : RTreeNode T E) → IsNodeClone is_clone h m n → AllZip is_clone (elements m) (elements n))
      → (ms ns : List (RTreeNode T E)) → AllZip (IsNodeClone is_clone h) ms ns → AllZip is_clone (flat_map elements ms) (flat_map elements ns)
  elements_each h one = zip_along (IsNodeClone is_clone h) (λ ms ns. AllZip is_clone (flat_map elements ms) (flat_map elements ns)) tt
      (λ m n ms ns r rest. AllZip-append is_clone (elements m) (flat_map elements ms) (elements n) (flat_map elements ns) (one m n r) rest)

  elements_cloned : (h : ℕ) (m n : RTreeNode T E) → IsNodeClone is_clone h m n → AllZip is_clone (elements m) (elements n)
  elements_cloned zero m n c = rw (c.2, c.3, elements-Leaf T E c.0, elements-Leaf T E c.1) (c.4, tt)
  elements_cloned (suc h) m n c = rw (c.2, c.3, elements-Parent c.0, elements-Parent c.1) (elements_each h (elements_cloned h) (children_of c.0) (children_of c.1) c.5)

  pub all_cloned : (h : ℕ) (p q : ParentNode T E) → IsParentClone is_clone h p q → AllZip is_clone (elements_of p) (elements_of q)
  all_cloned h p q c = elements_each h (elements_cloned h) (children_of p) (children_of q) c.children

  -- a clone shows the same, but for its elements
  outlined_each : (h : ℕ) → ((m n : RTreeNode T E) → IsNodeClone is_clone h m n → outline (shown n) ≡ outline (shown m)) → (p q : ParentNode T E) → IsParentClone is_clone h p q → outline (shown_root q) ≡ outline (shown_root p)
  outlined_each h one p q c = ap₂ parent c.envelope
      (zip_along (IsNodeClone is_clone h) (λ ms ns. outline_row (row_of (map shown ns)) ≡ outline_row (row_of (map shown ms))) refl (λ m n ms ns r rest. ap₂ more (one m n r) rest) (children_of p) (children_of q) c.children)

  outlined : (h : ℕ) (m n : RTreeNode T E) → IsNodeClone is_clone h m n → outline (shown n) ≡ outline (shown m)
  outlined zero m n c = rw (c.2, c.3, shown-Leaf T E c.0, shown-Leaf T E c.1) refl
  outlined (suc h) m n c = rw (c.2, c.3, shown-Parent c.0, shown-Parent c.1) (outlined_each h (outlined h) c.0 c.1 (record { envelope = c.4; children = c.5 }))

  pub outline_cloned : (h : ℕ) (p q : ParentNode T E) → IsParentClone is_clone h p q → outline (shown_root q) ≡ outline (shown_root p)
  outline_cloned h = outlined_each h (outlined h)

  -- a clone of equal elements shows the same
  module _ (equal : ClonesEqual is_clone) where
    shown_each : (h : ℕ) → ((m n : RTreeNode T E) → IsNodeClone is_clone h m n → shown n ≡ shown m) → (p q : ParentNode T E) → IsParentClone is_clone h p q → shown_root q ≡ shown_root p
    shown_each h one p q c = ap₂ (λ e ns. parent e (row_of ns)) c.envelope
        (zip_along (IsNodeClone is_clone h) (λ ms ns. map shown ns ≡ map shown ms) refl (λ m n ms ns r rest. ap₂ (λ x xs. x ∷ xs) (one m n r) rest) (children_of p) (children_of q) c.children)

    shown_cloned : (h : ℕ) (m n : RTreeNode T E) → IsNodeClone is_clone h m n → shown n ≡ shown m
    shown_cloned zero m n c = rw (c.2, c.3, shown-Leaf T E c.0, shown-Leaf T E c.1) (ap leaf (equal c.0 c.1 c.4))
    shown_cloned (suc h) m n c = rw (c.2, c.3, shown-Parent c.0, shown-Parent c.1) (shown_each h (shown_cloned h) c.0 c.1 (record { envelope = c.4; children = c.5 }))

  -- the clone of a leaf, and of a parent
  pub leaf_cloned : (h : ℕ) (n m : RTreeNode T E) (t u : T) → n ≡ Leaf t → m ≡ Leaf u → is_clone t u → IsLevel h n → IsNodeClone is_clone h n m
  leaf_cloned zero n m t u is put one level = (t, u, is, put, one)
  leaf_cloned (suc h) n m t u is put one level = absurd (no_parent _ t (subst (IsLevel (suc h)) is level))

  pub parent_cloned : (h : ℕ) (n m : RTreeNode T E) (p q : ParentNode T E) → n ≡ Parent p → m ≡ Parent q
      → ((k : ℕ) → AllByRecursion (IsLevel k) (children_of p) → IsParentClone is_clone k p q) → IsLevel h n → IsNodeClone is_clone h n m
  parent_cloned zero n m p q is put one level = absurd (no_leaf _ p (subst (IsLevel zero) is level))
  parent_cloned (suc h) n m p q is put one level =
      let c = one h (parent_of _ p (subst (IsLevel (suc h)) is level)).1 in
      (p, q, is, put, c.envelope, c.children)

-- a tree over a clone of a root
pub tree_cloned_whole : {T D E P S X : Type 0} (is_clone : T → T → Type 0) (equal : ClonesEqual is_clone) (v : Boxes E) (o : Objects T E) (max : ℕ) (old new : RTree T D E P S X) (whole : IsWholeTree v o max old) → ((h : ℕ) → AllByRecursion (IsLevel h) (children_of old.root) → IsParentClone is_clone h old.root new.root)
    → new.size ≡ old.size → new.levels ≡ old.levels → new.reserve.widest ≡ old.reserve.widest → new.reserve.spares.items ≡ [] → new.reserve.overfull.items ≡ [] → IsUnchanged old new × IsWholeTree v o max new
unfolding IsWholeTree
tree_cloned_whole is_clone equal v o max old new whole cloned =
    let h = whole.root_whole.height in
    let c = cloned h (trees_map (λ p q. q.1) (λ t q. tt) h (children_of old.root) whole.root_whole.below) in
    whole-alike v o max old new whole (shown_each is_clone equal h (shown_cloned is_clone equal h) old.root new.root c)
