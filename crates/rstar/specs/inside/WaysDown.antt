-- The way down to the first element that a question finds, and what a write at its end leaves.
-- T is the element's type, E its envelope's.
use Rattle.std.specs.Prelude.{◌≡◌, ℕ, zero, suc, ℤ, ◌<◌, nat_lt, Bool, ◌&&◌, List, [], ◌∷◌, map, length, if◌then◌else◌, slice_index_or, ⊤}
use Rattle.std.specs.Borrow.{Lends, MutBor, Fml}
use Rattle.std.specs.Vec.{with_item}
use denote.RattleType.{RattleType}
use Rattle.rstar_base.specs.Envelopes.{Boxes}
use Rattle.rstar_base.specs.Elements.{Distances}
use Rattle.rstar.specs.declared.node.RTreeNode.{RTreeNode, Leaf, Parent}
use Rattle.rstar.specs.declared.node.RTreeNode.TheOpen as layer
use Rattle.rstar.specs.declared.node.ParentNode.{ParentNode}
use Rattle.rstar.specs.contracts.node.RTreeNode.{the_row as node_row}
use Rattle.rstar.specs.contracts.node.ParentNode.{the_row as parent_row}
use Rattle.rstar.specs.Nodes.{Layer, layer_of, fold_tree, children_of}

-- ---- the search

-- the place of the first `true`, and the length where there is none
abbrev pub first_true : List Bool → ℕ
first_true [] = 0
first_true (b ∷ bs) = if b then 0 else suc (first_true bs)

-- whether a search that enters the accepted parents alone finds an element below the node
unfoldable pub finds : {T E : Type 0} → (E → Bool) → (T → Bool) → RTreeNode T E → Bool
finds accepts selects n = fold_tree selects (λ e below. accepts e && nat_lt (first_true below) (length below)) n

-- the place of the first node below which it finds one
abbrev pub first_finding : {T E : Type 0} → (E → Bool) → (T → Bool) → List (RTreeNode T E) → ℕ
first_finding accepts selects ns = first_true (map (finds accepts selects) ns)

-- the same where a point is asked for
abbrev pub finds_at : {T E : Type 0} → Boxes E → Distances T → List ℤ → RTreeNode T E → Bool
finds_at v d p n = finds (λ e. v.contains_point e p) (λ t. d.contains_point t p) n

abbrev pub first_at : {T E : Type 0} → Boxes E → Distances T → List ℤ → List (RTreeNode T E) → ℕ
first_at v d p ns = first_finding (λ e. v.contains_point e p) (λ t. d.contains_point t p) ns

-- the way goes on at this child of a parent
abbrev pub way_to : {T E : Type 0} → Boxes E → Distances T → List ℤ → ParentNode T E → ℕ
way_to v d p parent = first_at v d p (children_of parent)

-- ---- the way

abbrev pub IsLeaf : {T E : Type 0} → Layer T E → Type 0
IsLeaf (layer.Leaf t) = ⊤
IsLeaf (layer.Parent p) = ⊥

abbrev pub IsParent : {T E : Type 0} → Layer T E → Type 0
IsParent (layer.Leaf t) = ⊥
IsParent (layer.Parent p) = ⊤

-- the child at this place
abbrev pub child_at : {T E : Type 0} → ParentNode T E → ℕ → RTreeNode T E
child_at p i = slice_index_or p.children.items i (Parent p)

-- a leaf with another element, a node with another parent, a parent with another child
abbrev pub with_leaf : {T E : Type 0} → Layer T E → T → RTreeNode T E
with_leaf (layer.Leaf t) u = Leaf u
with_leaf (layer.Parent p) u = Parent p

abbrev pub with_parent : {T E : Type 0} → Layer T E → ParentNode T E → RTreeNode T E
with_parent (layer.Leaf t) p = Leaf t
with_parent (layer.Parent q) p = Parent p

abbrev pub with_child : {T E : Type 0}
    → ParentNode T E → ℕ → RTreeNode T E → ParentNode T E
with_child p i n = record p { children = with_item p.children i n }

module _ {T E : Type 0} (way : ParentNode T E → ℕ) where
  -- a parent has a child at the place that the way names
  abbrev pub HasWay : Layer T E → Type 0
  HasWay (layer.Leaf t) = ⊥
  HasWay (layer.Parent p) = way p < length p.children.items

  -- that child, and the node with another one there
  abbrev pub next_on : Layer T E → RTreeNode T E
  next_on (layer.Leaf t) = Leaf t
  next_on (layer.Parent p) = child_at p (way p)

  abbrev pub with_next : Layer T E → RTreeNode T E → RTreeNode T E
  with_next (layer.Leaf t) n = Leaf t
  with_next (layer.Parent p) n = Parent (with_child p (way p) n)

  -- from the node, or from below the parent, the way leads down to a leaf, so many levels
  abbrev pub Leads : ℕ → Layer T E → Type 0
  Leads zero n = IsLeaf n
  Leads (suc d) n = HasWay n × Leads d (layer_of (next_on n))

  abbrev pub LeadsBelow : ℕ → ParentNode T E → Type 0
  LeadsBelow d p = (way p < length p.children.items) × Leads d (layer_of (child_at p (way p)))

  -- the node with another element at that leaf
  abbrev pub put_at : ℕ → Layer T E → T → RTreeNode T E
  put_at zero n u = with_leaf n u
  put_at (suc d) n u = with_next n (put_at d (layer_of (next_on n)) u)

  -- u is the element of that leaf
  abbrev pub IsAt : ℕ → Layer T E → T → Type 0
  IsAt zero (layer.Leaf t) u = u ≡ t
  IsAt zero (layer.Parent p) u = ⊥
  IsAt (suc d) n u = IsAt d (layer_of (next_on n)) u

-- ---- what is lent

module _ (T E : RattleType) where
  abbrev pub LendsLeaf : MutBor (RTreeNode T.Denot E.Denot) → MutBor T.Denot → Fml
  LendsLeaf n r = Lends (node_row T E) T n r (with_leaf (layer_of n.now))

  abbrev pub LendsParent : MutBor (RTreeNode T.Denot E.Denot)
      → MutBor (ParentNode T.Denot E.Denot) → Fml
  LendsParent n r = Lends (node_row T E) (parent_row T E) n r (with_parent (layer_of n.now))

  abbrev pub LendsChild : MutBor (ParentNode T.Denot E.Denot) → ℕ
      → MutBor (RTreeNode T.Denot E.Denot) → Fml
  LendsChild p i r = Lends (parent_row T E) (node_row T E) p r (with_child p.now i)

  abbrev pub LendsElement : (ParentNode T.Denot E.Denot → ℕ)
      → MutBor (RTreeNode T.Denot E.Denot) → ℕ → MutBor T.Denot → Fml
  LendsElement way n depth r = Lends (node_row T E) T n r (put_at way depth (layer_of n.now))

-- ---- a change of the element at the end of the way

module _ {T E : Type 0} (way : ParentNode T E → ℕ) (f : T → T) where
  abbrev pub change_leaf : Layer T E → RTreeNode T E
  change_leaf (layer.Leaf t) = Leaf (f t)
  change_leaf (layer.Parent p) = Parent p

  -- the node, or the parent, with that element changed by f, so many levels below
  abbrev pub change_at : ℕ → Layer T E → RTreeNode T E
  change_at zero n = change_leaf n
  change_at (suc d) n = with_next way n (change_at d (layer_of (next_on way n)))

  abbrev pub change_below : ℕ → ParentNode T E → ParentNode T E
  change_below d p = with_child p (way p) (change_at d (layer_of (child_at p (way p))))
