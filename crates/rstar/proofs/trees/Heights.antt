-- The levels of nodes.
use Rattle.std.proofs.Common.{◌≡◌, ◌≢◌, ℕ, zero, suc, ◌+◌, List, [], ◌∷◌, refl, ap, ◌∙◌, arith, sym, subst}
use Rattle.rstar.specs.declared.node.RTreeNode.{RTreeNode, Leaf, Parent}
use Rattle.rstar.specs.declared.node.ParentNode.{ParentNode}
use Rattle.rstar.specs.Nodes.{fold_tree}
use Rattle.rstar.specs.Shapes.{AreTrees}
use Rattle.rstar.specs.Heights.{levels, levels_below}
use Rattle.rstar.proofs.trees.ByChildren.{fold_tree-Parent, is_leaf, is_parent}

module _ (T E : Type 0) where
  pub levels-Leaf : (t : T) → levels {E = E} (Leaf t) ≡ 0
  unfolding levels fold_tree
  levels-Leaf t = refl

module _ {T E : Type 0} where
  pub levels-Parent : (p : ParentNode T E) → levels (Parent p) ≡ 1 + levels_below p.children.items
  unfolding levels
  levels-Parent p = fold_tree-Parent _ _ p

  -- trees with a child on each level have as many levels as their leaves lie below them
  pub levels_are : (Q : ParentNode T E → Type 0) (R : T → Type 0) (some : (p : ParentNode T E) → Q p → p.children.items ≢ []) (h : ℕ) (ns : List (RTreeNode T E))
      → ns ≢ [] → AreTrees Q R h ns → levels_below ns ≡ h
  levels_are Q R some h [] full trees = absurd (full refl)
  levels_are Q R some zero (n ∷ rest) full trees =
      let l = is_leaf R n trees.0 in
      ap levels l.1 ∙ levels-Leaf T E l.0
  levels_are Q R some (suc h) (n ∷ rest) full trees =
      let p = is_parent _ n trees.0 in
      omega (arith, levels_are Q R some h p.0.children.items (some p.0 p.2.0) p.2.1, ap levels p.1 ∙ levels-Parent p.0)

  -- so they lie by the levels that the first of them shows
  pub at_levels : (Q : ParentNode T E → Type 0) (R : T → Type 0) (some : (p : ParentNode T E) → Q p → p.children.items ≢ []) (h n : ℕ) (ns : List (RTreeNode T E))
      → n ≡ levels_below ns → AreTrees Q R h ns → AreTrees Q R n ns
  at_levels Q R some h n [] is trees = tt
  at_levels Q R some h n (m ∷ ms) is trees = subst (λ (k : ℕ). AreTrees Q R k (m ∷ ms)) (sym (is ∙ levels_are Q R some h (m ∷ ms) (λ none. cc) trees)) trees
