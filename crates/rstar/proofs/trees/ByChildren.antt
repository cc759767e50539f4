-- What a definition over a tree says of a leaf, and of a parent by the list of its children.
use Rattle.std.proofs.Common.{Some, None, ◌≡◌, ℕ, ◌+◌, Bool, List, [], ◌∷◌, ◌++◌, map, flat_map, sum_by, if◌then◌else◌, nat_lt, refl, ap, sym, ◌∙◌, subst, ◌⊎◌, inl, inr}
use Rattle.std.proofs.lemmas.List.Sums.{sum_by-cons}
use Rattle.rstar.specs.declared.node.RTreeNode.{RTreeNode, Leaf, Parent, Row_of-RTreeNode, end_of-RTreeNode, more_of-RTreeNode, items-the_row-RTreeNode, items_hidden-the_row-RTreeNode-0, out-RTreeNode, roll-RTreeNode, roll-out-RTreeNode}
use Rattle.rstar.specs.declared.node.RTreeNode.TheVariants.{outs-Parent, outs-Leaf, rolls-Parent, rolls-Leaf}
use Rattle.rstar.specs.declared.node.RTreeNode.TheOpen as layer
use Rattle.rstar.specs.declared.node.RTreeNode.TheBlock.{hidden-the_row-RTreeNode-0}
use Rattle.rstar.specs.declared.node.ParentNode.{ParentNode}
use Rattle.rstar.specs.inside.Traversals.{steps}
use Rattle.rstar.specs.Shown.{row_of, shown, leaf as shown_leaf, parent as shown_parent}
use Rattle.rstar.specs.Nodes.{Layer, leaf_element, children_of, fold_tree, fold_row, joined, total, elements, parents, far, reach, given, all_reach, all_given, all_elements, all_parents, all_far, node_box, node_distance, of_parent, of_parent_layer, IsLeafOf, IsParentOf, IsLeafLayer, IsParentLayer}

pub joined-map : {A B : Type 0} (f : A → List B) (xs : List A) → joined (map f xs) ≡ flat_map f xs
joined-map f [] = refl
joined-map f (x ∷ xs) = ap (λ l. f x ++ l) (joined-map f xs)

pub total-map : {A : Type 0} (f : A → ℕ) (xs : List A) → total (map f xs) ≡ sum_by f xs
total-map f [] = refl
total-map f (x ∷ xs) = ap (λ n. f x + n) (total-map f xs) ∙ sym (sum_by-cons f x xs)

module _ {T E : Type 0} where
  fold_row-items : {A : Type 0} {m : _} (leaf : T → A) (parent : E → List A → A) (row : Row_of-RTreeNode T E m) →
      fold_row leaf parent row ≡ map (fold_tree leaf parent) (items-the_row-RTreeNode T E m row)
  unfolding fold_row
  fold_row-items leaf parent end_of-RTreeNode = refl
  fold_row-items leaf parent (more_of-RTreeNode node rest) = ap (λ l. fold_tree leaf parent node ∷ l) (fold_row-items leaf parent rest)

  -- a fold at a parent, by the list of its children
  pub fold_tree-Parent : {A : Type 0} (leaf : T → A) (parent : E → List A → A) (p : ParentNode T E) →
      fold_tree leaf parent (Parent p) ≡ parent p.envelope (map (fold_tree leaf parent) p.children.items)
  unfolding fold_tree
  fold_tree-Parent leaf parent p =
      ap (parent p.envelope) (fold_row-items leaf parent (hidden-the_row-RTreeNode-0 T E p.children) ∙ ap (map (fold_tree leaf parent)) (items_hidden-the_row-RTreeNode-0 T E p.children))

  pub elements-Parent : (p : ParentNode T E) → elements (Parent p) ≡ all_elements p.children.items
  unfolding elements
  elements-Parent p = fold_tree-Parent _ _ p ∙ joined-map elements p.children.items

  pub parents-Parent : (p : ParentNode T E) → parents (Parent p) ≡ 1 + all_parents p.children.items
  unfolding parents
  parents-Parent p = fold_tree-Parent _ _ p ∙ ap (λ n. 1 + n) (total-map parents p.children.items)

  pub far-Parent : (dist : E → ℕ) (d : ℕ) (p : ParentNode T E) → far dist d (Parent p) ≡ (if nat_lt d (dist p.envelope) then 1 else 0) + all_far dist d p.children.items
  unfolding far
  far-Parent dist d p = fold_tree-Parent _ _ p ∙ ap (λ n. (if nat_lt d (dist p.envelope) then 1 else 0) + n) (total-map (far dist d) p.children.items)

  pub leaf_element-Parent : (p : ParentNode T E) → leaf_element (Parent p) ≡ None
  unfolding leaf_element
  leaf_element-Parent p = fold_tree-Parent _ _ p

  pub given-Parent : (accepts : E → Bool) (selects : T → Bool) (p : ParentNode T E) → given accepts selects (Parent p) ≡ (if accepts p.envelope then all_given accepts selects (children_of p) else [])
  unfolding given
  given-Parent accepts selects p = fold_tree-Parent _ _ p ∙ ap (λ l. if accepts p.envelope then l else []) (joined-map (given accepts selects) p.children.items)

  pub reach-Parent : (accepts : E → Bool) (p : ParentNode T E) → reach accepts (Parent p) ≡ (if accepts p.envelope then 1 + all_reach accepts (children_of p) else 0)
  unfolding reach
  reach-Parent accepts p = fold_tree-Parent _ _ p

  pub steps-Parent : (p : ParentNode T E) → steps (Parent p) ≡ 2 + total (map steps (children_of p))
  unfolding steps
  steps-Parent p = fold_tree-Parent _ _ p

  pub shown-Parent : (p : ParentNode T E) → shown (Parent p) ≡ shown_parent p.envelope (row_of (map shown (children_of p)))
  unfolding shown
  shown-Parent p = fold_tree-Parent _ _ p

  pub node_box-Parent : (box_of : T → E) (p : ParentNode T E) → node_box box_of (Parent p) ≡ p.envelope
  unfolding node_box
  node_box-Parent box_of p = fold_tree-Parent _ _ p

  pub node_distance-Parent : (dist : E → ℕ) (element_dist : T → ℕ) (p : ParentNode T E) → node_distance dist element_dist (Parent p) ≡ dist p.envelope
  unfolding node_distance
  node_distance-Parent dist element_dist p = fold_tree-Parent _ _ p

  pub parent_of : (Q : ParentNode T E → Type 0) (p : ParentNode T E) → IsParentOf Q (Parent p) → Q p
  unfolding IsParentOf
  parent_of Q p h = subst (IsParentLayer Q) (outs-Parent p) h

  pub IsParentOf-Parent : (Q : ParentNode T E → Type 0) (p : ParentNode T E) → Q p → IsParentOf Q (Parent p)
  unfolding IsParentOf
  IsParentOf-Parent Q p h = subst (IsParentLayer Q) (sym (outs-Parent p)) h

  pub of_parent-Parent : (f : ParentNode T E → ℕ) (p : ParentNode T E) → of_parent f (Parent p) ≡ f p
  unfolding of_parent
  of_parent-Parent f p = ap (of_parent_layer f) (outs-Parent p)

  pub no_leaf : (Q : T → Type 0) (p : ParentNode T E) → IsLeafOf Q (Parent p) → ⊥
  unfolding IsLeafOf
  no_leaf Q p h = subst (IsLeafLayer Q) (outs-Parent p) h

  pub no_parent : (Q : ParentNode T E → Type 0) (t : T) → IsParentOf Q (Leaf t) → ⊥
  unfolding IsParentOf
  no_parent Q t h = subst (IsParentLayer Q) (outs-Leaf t) h

module _ (T E : Type 0) where
  pub elements-Leaf : (t : T) → elements {E = E} (Leaf t) ≡ t ∷ []
  unfolding elements fold_tree
  elements-Leaf t = refl

  pub shown-Leaf : (t : T) → shown {E = E} (Leaf t) ≡ shown_leaf t
  unfolding shown fold_tree
  shown-Leaf t = refl

  pub node_box-Leaf : (box_of : T → E) (t : T) → node_box box_of (Leaf t) ≡ box_of t
  unfolding node_box fold_tree
  node_box-Leaf box_of t = refl

  pub far-Leaf : (dist : E → ℕ) (d : ℕ) (t : T) → far dist d (Leaf t) ≡ 0
  unfolding far fold_tree
  far-Leaf dist d t = refl

  pub node_distance-Leaf : (dist : E → ℕ) (element_dist : T → ℕ) (t : T) → node_distance dist element_dist (Leaf t) ≡ element_dist t
  unfolding node_distance fold_tree
  node_distance-Leaf dist element_dist t = refl

  pub leaf_element-Leaf : (t : T) → leaf_element {E = E} (Leaf t) ≡ Some t
  unfolding leaf_element fold_tree
  leaf_element-Leaf t = refl

  pub IsLeafOf-Leaf : (Q : T → Type 0) (t : T) → Q t → IsLeafOf {E = E} Q (Leaf t)
  unfolding IsLeafOf
  IsLeafOf-Leaf Q t h = subst (IsLeafLayer Q) (sym (outs-Leaf t)) h

  pub leaf_of : (Q : T → Type 0) (t : T) → IsLeafOf {E = E} Q (Leaf t) → Q t
  unfolding IsLeafOf
  leaf_of Q t h = subst (IsLeafLayer Q) (outs-Leaf t) h

  pub given-Leaf : (accepts : E → Bool) (selects : T → Bool) (t : T) → given accepts selects (Leaf t) ≡ (if selects t then t ∷ [] else [])
  unfolding given fold_tree
  given-Leaf accepts selects t = refl

  pub reach-Leaf : (accepts : E → Bool) (t : T) → reach accepts (Leaf t) ≡ 0
  unfolding reach fold_tree
  reach-Leaf accepts t = refl

  pub steps-Leaf : (t : T) → steps {E = E} (Leaf t) ≡ 1
  unfolding steps fold_tree
  steps-Leaf t = refl

-- ---- leaves and parents

-- what holds of each leaf and of each parent holds of each node
pub by_node : {T E : Type 0} (P : RTreeNode T E → Type 0) → ((t : T) → P (Leaf t)) → ((p : ParentNode T E) → P (Parent p)) → (n : RTreeNode T E) → P n
by_node {T} {E} P of_leaf of_parent n = by_layer (out-RTreeNode T E n) (sym (roll-out-RTreeNode T E n)) where
  by_layer : (w : Layer T E) → n ≡ roll-RTreeNode T E w → P n
  by_layer (layer.Leaf t) e = subst P (sym (e ∙ rolls-Leaf t)) (of_leaf t)
  by_layer (layer.Parent p) e = subst P (sym (e ∙ rolls-Parent p)) (of_parent p)

module _ {T E : Type 0} where
  -- a node is a leaf or a parent
  pub node-cases : (n : RTreeNode T E) → ((t : T) × (n ≡ Leaf t)) ⊎ ((p : ParentNode T E) × (n ≡ Parent p))
  node-cases = by_node (λ (n : RTreeNode T E). ((t : T) × (n ≡ Leaf t)) ⊎ ((p : ParentNode T E) × (n ≡ Parent p))) (λ t. inl (t, refl)) (λ p. inr (p, refl))

  pub is_parent : (Q : ParentNode T E → Type 0) (n : RTreeNode T E) → IsParentOf Q n → (p : ParentNode T E) × (n ≡ Parent p) × Q p
  is_parent Q = by_node (λ (n : RTreeNode T E). IsParentOf Q n → (p : ParentNode T E) × (n ≡ Parent p) × Q p) (λ t h. absurd (no_parent Q t h)) (λ p h. (p, refl, parent_of Q p h))

  pub is_leaf : (Q : T → Type 0) (n : RTreeNode T E) → IsLeafOf Q n → (t : T) × (n ≡ Leaf t) × Q t
  is_leaf Q = by_node (λ (n : RTreeNode T E). IsLeafOf Q n → (t : T) × (n ≡ Leaf t) × Q t) (λ t h. (t, refl, leaf_of T E Q t h)) (λ p h. absurd (no_leaf Q p h))
