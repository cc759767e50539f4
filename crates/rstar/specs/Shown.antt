-- What nodes show: leaves with their elements, parents with their envelopes and children; nothing of how they are kept.
-- T is the element's type, E its envelope's.
use Rattle.std.specs.Prelude.{List, [], ◌∷◌, map}
use Rattle.rstar.specs.declared.node.RTreeNode.{RTreeNode}
use Rattle.rstar.specs.declared.node.ParentNode.{ParentNode}
use Rattle.rstar.specs.Nodes.{fold_tree, children_of, envelope_of}

mutual
  -- what a node shows: a leaf with its element, or a parent with its envelope and children
  pub data Shown (T E : Type 0) : Type 0 where
    leaf : T → Shown T E
    parent : E → ShownRow T E → Shown T E

  -- the children of a shown parent, left to right
  pub data ShownRow (T E : Type 0) : Type 0 where
    end : ShownRow T E
    more : Shown T E → ShownRow T E → ShownRow T E

-- a list of shown nodes as children
abbrev pub row_of : {T E : Type 0} → List (Shown T E) → ShownRow T E
row_of [] = end
row_of (n ∷ ns) = more n (row_of ns)

-- a row as a list
abbrev pub nodes_in : {T E : Type 0} → ShownRow T E → List (Shown T E)
nodes_in end = []
nodes_in (more n ns) = n ∷ nodes_in ns

-- a value for what a node shows: of a leaf by its element, of a parent by its envelope and its children's values
abbrev mutual
  pub fold_shown : {T E A : Type 0} → (T → A) → (E → List A → A) → Shown T E → A
  fold_shown at_leaf at_parent (leaf t) = at_leaf t
  fold_shown at_leaf at_parent (parent e below) = at_parent e (fold_shown_row at_leaf at_parent below)

  pub fold_shown_row : {T E A : Type 0} → (T → A) → (E → List A → A) → ShownRow T E → List A
  fold_shown_row at_leaf at_parent end = []
  fold_shown_row at_leaf at_parent (more n ns) =
      fold_shown at_leaf at_parent n ∷ fold_shown_row at_leaf at_parent ns

-- what a node shows
unfoldable pub shown : {T E : Type 0} → RTreeNode T E → Shown T E
shown n = fold_tree leaf (λ e below. parent e (row_of below)) n

-- what a root shows
abbrev pub shown_root : {T E : Type 0} → ParentNode T E → Shown T E
shown_root root = parent (envelope_of root) (row_of (map shown (children_of root)))

-- ---- the same without the elements: leaves in their places, parents with their envelopes

abbrev mutual
  -- a shown node without its elements: leaves in their places, parents with their envelopes
  pub outline : {T E : Type 0} → Shown T E → Shown (Unit {0}) E
  outline (leaf t) = leaf tt
  outline (parent e below) = parent e (outline_row below)

  -- the same of children
  pub outline_row : {T E : Type 0} → ShownRow T E → ShownRow (Unit {0}) E
  outline_row end = end
  outline_row (more n ns) = more (outline n) (outline_row ns)
