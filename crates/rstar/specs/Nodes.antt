-- What a node holds, and when it is whole.
-- T is the element's type, E its envelope's.
use Rattle.std.specs.Prelude.{Option, Some, None, ◌≡◌, ◌≢◌, ℕ, zero, suc, ◌+◌, Bool, true, false, List, [], ◌∷◌, ◌++◌, map, sum_by, if◌then◌else◌, nat_lt}
use Rattle.std.specs.List.{AllByRecursion, flat_map}
use Rattle.rstar_base.specs.Envelopes.{Boxes}
use Rattle.rstar_base.specs.Elements.{Objects}
use Rattle.rstar_base.specs.Hulls.{hull}
use Rattle.rstar.specs.declared.node.RTreeNode.{RTreeNode, Leaf, Parent', Row_of-RTreeNode, end_of-RTreeNode, more_of-RTreeNode, RTreeNode-F, out-RTreeNode}
use Rattle.rstar.specs.declared.node.RTreeNode.TheOpen as layer
use Rattle.rstar.specs.declared.node.ParentNode.{ParentNode}

-- ---- layers

-- the outermost layer of a node: a leaf with its element, or a parent
abbrev pub Layer : Type 0 → Type 0 → Type 0
Layer T E = RTreeNode-F T E (RTreeNode T E) (ParentNode T E)

abbrev pub layer_of : {T E : Type 0} → RTreeNode T E → Layer T E
layer_of {T} {E} n = out-RTreeNode T E n

-- ---- what a parent shows

-- the children of a parent, left to right
abbrev pub children_of : {T E : Type 0} → ParentNode T E → List (RTreeNode T E)
children_of p = p.children.items

-- the envelope that a parent keeps
abbrev pub envelope_of : {T E : Type 0} → ParentNode T E → E
envelope_of p = p.envelope

-- ---- folds

-- a value for a node: of a leaf by its element, of a parent by its envelope and its children's values
unfoldable mutual
  pub fold_tree : {T E A : Type 0} → (T → A) → (E → List A → A) → RTreeNode T E → A
  fold_tree leaf parent (Leaf t) = leaf t
  fold_tree leaf parent (Parent' shape children envelope) = parent envelope (fold_row leaf parent children)

  pub fold_row : {T E A : Type 0} {m : _} → (T → A) → (E → List A → A) → Row_of-RTreeNode T E m → List A
  fold_row leaf parent end_of-RTreeNode = []
  fold_row leaf parent (more_of-RTreeNode node rest) = fold_tree leaf parent node ∷ fold_row leaf parent rest

-- the lists, one after another
abbrev pub joined : {A : Type 0} → List (List A) → List A
joined [] = []
joined (xs ∷ rest) = xs ++ joined rest

-- the sum of the numbers
abbrev pub total : List ℕ → ℕ
total [] = 0
total (n ∷ rest) = n + total rest

-- the elements of a node, left to right
unfoldable pub elements : {T E : Type 0} → RTreeNode T E → List T
elements n = fold_tree (λ t. t ∷ []) (λ e below. joined below) n

-- the envelopes of the parents of a node, each before those below it
unfoldable pub envelopes : {T E : Type 0} → RTreeNode T E → List E
envelopes n = fold_tree (λ t. []) (λ e below. e ∷ joined below) n

-- the number of parents of a node, itself included
unfoldable pub parents : {T E : Type 0} → RTreeNode T E → ℕ
parents n = fold_tree (λ t. 0) (λ e below. 1 + total below) n

-- how many parents of a node have an envelope farther than d
unfoldable pub far : {T E : Type 0} → (E → ℕ) → ℕ → RTreeNode T E → ℕ
far dist d n = fold_tree (λ t. 0) (λ e below. (if nat_lt d (dist e) then 1 else 0) + total below) n

-- how many parents of a node are accepted with all above them
unfoldable pub reach : {T E : Type 0} → (E → Bool) → RTreeNode T E → ℕ
reach accepts n = fold_tree (λ t. 0) (λ e below. if accepts e then 1 + total below else 0) n

-- the elements that a traversal of the accepted parents selects
unfoldable pub given : {T E : Type 0} → (E → Bool) → (T → Bool) → RTreeNode T E → List T
given accepts selects n = fold_tree (λ t. if selects t then t ∷ [] else [])
    (λ e below. if accepts e then joined below else []) n

-- a number of a parent, and 0 of a leaf
abbrev pub of_parent_layer : {T E : Type 0} → (ParentNode T E → ℕ) → Layer T E → ℕ
of_parent_layer f (layer.Leaf t) = 0
of_parent_layer f (layer.Parent p) = f p

unfoldable pub of_parent : {T E : Type 0} → (ParentNode T E → ℕ) → RTreeNode T E → ℕ
of_parent f n = of_parent_layer f (layer_of n)

-- the element of a leaf
unfoldable pub leaf_element : {T E : Type 0} → RTreeNode T E → Option T
leaf_element n = fold_tree (λ t. Some t) (λ e below. None) n

-- whether a node is a leaf
unfoldable pub is_leaf_node : {T E : Type 0} → RTreeNode T E → Bool
is_leaf_node n = fold_tree (λ t. true) (λ e below. false) n

-- the envelope of a node: its element's, or the one that the parent keeps
unfoldable pub node_box : {T E : Type 0} → (T → E) → RTreeNode T E → E
node_box box_of n = fold_tree box_of (λ e below. e) n

-- the distance at which a node waits: its element's, or that of the parent's envelope
unfoldable pub node_distance : {T E : Type 0} → (E → ℕ) → (T → ℕ) → RTreeNode T E → ℕ
node_distance dist element_dist n = fold_tree element_dist (λ e below. dist e) n

-- the elements of several nodes
abbrev pub all_elements : {T E : Type 0} → List (RTreeNode T E) → List T
all_elements ns = flat_map elements ns

-- the number of parents of several nodes
abbrev pub all_parents : {T E : Type 0} → List (RTreeNode T E) → ℕ
all_parents ns = sum_by parents ns

-- how many parents of several nodes have an envelope farther than d
abbrev pub all_far : {T E : Type 0} → (E → ℕ) → ℕ → List (RTreeNode T E) → ℕ
all_far dist d ns = sum_by (far dist d) ns

-- how many parents of several nodes are accepted with all above them
abbrev pub all_reach : {T E : Type 0} → (E → Bool) → List (RTreeNode T E) → ℕ
all_reach accepts ns = total (map (reach accepts) ns)

-- the elements that a traversal of several nodes selects
abbrev pub all_given : {T E : Type 0} → (E → Bool) → (T → Bool) → List (RTreeNode T E) → List T
all_given accepts selects ns = flat_map (given accepts selects) ns

-- ---- the same of a root

-- the elements below a parent, left to right
abbrev pub elements_of : {T E : Type 0} → ParentNode T E → List T
elements_of p = all_elements (children_of p)

-- the envelopes of a root and of the parents below it
abbrev pub envelopes_of : {T E : Type 0} → ParentNode T E → List E
envelopes_of p = envelope_of p ∷ flat_map envelopes (children_of p)

-- the number of parents of a root, itself included
abbrev pub parents_of : {T E : Type 0} → ParentNode T E → ℕ
parents_of root = 1 + all_parents (children_of root)

-- how many parents of a root have an envelope farther than d
abbrev pub far_of : {T E : Type 0} → (E → ℕ) → ℕ → ParentNode T E → ℕ
far_of dist d root = (if nat_lt d (dist (envelope_of root)) then 1 else 0) + all_far dist d (children_of root)

-- how many parents are accepted with all above them; 0 for an empty root, which is never visited
abbrev pub reach_below : {T E : Type 0} → (E → Bool) → E → List (RTreeNode T E) → ℕ
reach_below accepts e [] = 0
reach_below accepts e (n ∷ ns) = if accepts e then 1 + all_reach accepts (n ∷ ns) else 0

-- how many parents of a root a traversal visits: those accepted with all above them
abbrev pub reach_of : {T E : Type 0} → (E → Bool) → ParentNode T E → ℕ
reach_of accepts root = reach_below accepts (envelope_of root) (children_of root)

-- the elements below a root that a traversal of the accepted parents selects
abbrev pub given_of : {T E : Type 0} → (E → Bool) → (T → Bool) → ParentNode T E → List T
given_of accepts selects root = if accepts (envelope_of root) then all_given accepts selects (children_of root) else []

-- ---- shapes

-- one layer of a node: a leaf whose element meets Q, or a parent that meets Q
abbrev pub IsLeafLayer : {T E : Type 0} → (T → Type 0) → Layer T E → Type 0
IsLeafLayer Q (layer.Leaf t) = Q t
IsLeafLayer Q (layer.Parent p) = ⊥

abbrev pub IsParentLayer : {T E : Type 0} → (ParentNode T E → Type 0) → Layer T E → Type 0
IsParentLayer Q (layer.Leaf t) = ⊥
IsParentLayer Q (layer.Parent p) = Q p

-- the node is a leaf whose element meets Q
unfoldable pub IsLeafOf : {T E : Type 0} → (T → Type 0) → RTreeNode T E → Type 0
IsLeafOf Q n = IsLeafLayer Q (layer_of n)

-- the node is a parent that meets Q
unfoldable pub IsParentOf : {T E : Type 0} → (ParentNode T E → Type 0) → RTreeNode T E → Type 0
IsParentOf Q n = IsParentLayer Q (layer_of n)

-- all leaves lie this many levels below the node, each parent meets Q, and each element meets R
abbrev pub IsTree : {T E : Type 0} → (ParentNode T E → Type 0) → (T → Type 0) → ℕ → RTreeNode T E
    → Type 0
IsTree Q R zero n = IsLeafOf R n
IsTree Q R (suc h) n = IsParentOf (λ p. Q p × AllByRecursion (IsTree Q R h) (children_of p)) n

module _ {T E : Type 0} (v : Boxes E) (o : Objects T E) where
  -- an element that a tree may hold: a value whose envelope is not empty
  abbrev pub IsElement : T → Type 0
  IsElement t = o.IsValue t × (v.is_empty (o.box_of t) ≡ false)

module _ {T E : Type 0} (v : Boxes E) (o : Objects T E) where
  -- the envelope of a parent is the merge of the envelopes of its elements
  abbrev pub IsTight : ParentNode T E → Type 0
  IsTight p = envelope_of p ≡ hull v o.box_of (elements_of p)

  -- a parent other than the root: tight, with at least one child
  abbrev pub IsInner : ParentNode T E → Type 0
  IsInner p = IsTight p × (children_of p ≢ [])

  -- whole nodes: their leaves lie h levels below, their parents are `IsInner`
  abbrev pub AreWhole : ℕ → List (RTreeNode T E) → Type 0
  AreWhole h ns = AllByRecursion (IsTree IsInner (IsElement v o) h) ns

  -- a whole root: tight, with all leaves on one level, over whole nodes
  pub record IsWhole (root : ParentNode T E) : Type 0 where
    pub height : ℕ
    pub tight : IsTight root
    pub below : AreWhole height (children_of root)
