-- Pairs of nodes of two trees: what a join of the two gives, and what it counts.
-- T, E, P, S, X are the types of the left tree as in Nodes, and U, F, Q, R, Y those of the right one. `meets` says
-- whether an envelope of the left tree intersects one of the right tree.
use Rattle.std.specs.Prelude.{ℕ, ◌+◌, Bool, false, List, [], ◌∷◌, map, flat_map, sum_by, if◌then◌else◌}
use Rattle.rstar.specs.declared.node.RTreeNode.{RTreeNode}
use Rattle.rstar.specs.declared.node.RTreeNode.TheOpen as layer
use Rattle.rstar.specs.declared.node.ParentNode.{ParentNode}
use Rattle.rstar.specs.Lists.{product}
use Rattle.rstar.specs.Nodes.{Layer, layer_of, fold_tree, total, reach, given, node_box}
use Rattle.rstar.specs.Nodes.{is_leaf_node, children_of, envelope_of}
use Rattle.rstar.specs.Shown.{Shown, leaf, parent, end, more, nodes_in, fold_shown, shown, shown_root}

-- ---- Meet, over what the nodes of two trees show

-- what comes after a node: a parent's children, and a leaf itself
abbrev pub next_shown : {T E : Type 0} → Shown T E → List (Shown T E)
next_shown (leaf t) = leaf t ∷ []
next_shown (parent e below) = nodes_in below

-- the envelope of a node: of a leaf its element's, of a parent the one that it keeps
abbrev pub shown_box : {T E : Type 0} → (T → E) → Shown T E → E
shown_box box_of (leaf t) = box_of t
shown_box box_of (parent e below) = e

-- how many parents from a node on have an envelope that a test accepts, whatever is above them
abbrev pub count_shown : {T E : Type 0} → (E → Bool) → Shown T E → ℕ
count_shown accepts n = fold_shown (λ t. 0) (λ e below. (if accepts e then 1 else 0) + total below) n

module _ {T E U F : Type 0} (meets : E → F → Bool) (left_box : T → E) (right_box : U → F) where
  -- the pairs of nodes from two nodes on, not both leaves, that meet, and that lie equally far below the two, or of
  -- which the nearer one is a leaf. Beside a leaf the other node goes on alone.
  abbrev pub meet_shown : Shown T E → Shown U F → ℕ
  meet_shown l r = fold_shown {A = Shown U F → ℕ}
      (λ t r. count_shown (meets (left_box t)) r)
      (λ e below r. (if meets e (shown_box right_box r) then 1 else 0)
      + sum_by (λ p. p.0 p.1) (product below (next_shown r)))
      l r

  -- Meet of two roots; 0 where one has no children
  abbrev pub meet_of_shown : Shown T E → Shown U F → ℕ
  meet_of_shown (parent e (more l ls)) (parent f (more r rs)) = meet_shown (parent e (more l ls)) (parent f (more r rs))
  meet_of_shown (parent e (more l ls)) (parent f end) = 0
  meet_of_shown (parent e (more l ls)) (leaf u) = 0
  meet_of_shown (parent e end) r = 0
  meet_of_shown (leaf t) r = 0

-- ---- the same of nodes

-- the nodes that come after a node: a parent's children, and a leaf itself
abbrev pub next_nodes : {T E : Type 0} → RTreeNode T E → Layer T E → List (RTreeNode T E)
next_nodes n (layer.Leaf t) = n ∷ []
next_nodes n (layer.Parent p) = children_of p

unfoldable pub opened_to : {T E : Type 0} → RTreeNode T E → List (RTreeNode T E)
opened_to n = next_nodes n (layer_of n)

-- whether two nodes are both leaves
abbrev pub both_leaves : {T E U F : Type 0} → RTreeNode T E → RTreeNode U F → Bool
both_leaves l r = if is_leaf_node l then is_leaf_node r else false

unfoldable pub count_parents : {T E : Type 0} → (E → Bool) → RTreeNode T E → ℕ
count_parents accepts n = count_shown accepts (shown n)

module _ {T E U F : Type 0} (meets : E → F → Bool) (left_box : T → E) (right_box : U → F) where
  unfoldable pub meet : RTreeNode T E → RTreeNode U F → ℕ
  meet l r = meet_shown meets left_box right_box (shown l) (shown r)

  -- how many pairs of nodes of two roots intersect, those of two leaves left out
  abbrev pub meet_of_roots : ParentNode T E → ParentNode U F → ℕ
  meet_of_roots left right = meet_of_shown meets left_box right_box (shown_root left) (shown_root right)

  -- ---- what a walk gives that goes below the pairs that meet alone, and how many pairs it opens

  unfoldable pub pairs_at : RTreeNode T E → RTreeNode U F → List (T × U)
  pairs_at l r = fold_tree {A = RTreeNode U F → List (T × U)}
      (λ t r. map (λ u. (t, u)) (given (meets (left_box t)) (λ u. meets (left_box t) (right_box u)) r))
      (λ e below r. if meets e (node_box right_box r) then flat_map (λ p. p.0 p.1) (product below (opened_to r))
      else [])
      l r

  unfoldable pub opens_at : RTreeNode T E → RTreeNode U F → ℕ
  opens_at l r = fold_tree {A = RTreeNode U F → ℕ}
      (λ t r. reach (meets (left_box t)) r)
      (λ e below r. if meets e (node_box right_box r) then 1 + sum_by (λ p. p.0 p.1) (product below (opened_to r))
      else 0)
      l r

  -- the same of all pairs of two lists of nodes
  abbrev pub all_pairs : List (RTreeNode T E) → List (RTreeNode U F) → List (T × U)
  all_pairs ls rs = flat_map (λ p. pairs_at p.0 p.1) (product ls rs)

  abbrev pub all_opens : List (RTreeNode T E) → List (RTreeNode U F) → ℕ
  all_opens ls rs = sum_by (λ p. opens_at p.0 p.1) (product ls rs)

  abbrev pub pairs_from_roots : ParentNode T E → ParentNode U F → List (T × U)
  pairs_from_roots left right =
      if meets (envelope_of left) (envelope_of right) then all_pairs (children_of left) (children_of right) else []
