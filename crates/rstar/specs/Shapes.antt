-- How many children the parents of a tree have.
use Rattle.std.specs.Prelude.{ℕ, ◌≤◌, List, length, vec_len, ⊤}
use Rattle.std.specs.List.{AllByRecursion}
use Rattle.rstar.specs.declared.node.RTreeNode.{RTreeNode}
use Rattle.rstar.specs.declared.node.ParentNode.{ParentNode}
use Rattle.rstar.specs.Nodes.{children_of, IsTree}

-- trees of height h, whose parents meet Q and whose elements meet R
abbrev pub AreTrees : {T E : Type 0} → (ParentNode T E → Type 0) → (T → Type 0) → ℕ
    → List (RTreeNode T E) → Type 0
AreTrees Q R h ns = AllByRecursion (IsTree Q R h) ns

-- a parent that meets Q, above such trees
abbrev pub IsParentTree : {T E : Type 0} → (ParentNode T E → Type 0) → (T → Type 0) → ℕ
    → ParentNode T E → Type 0
IsParentTree Q R h p = Q p × AreTrees Q R h (children_of p)

-- no claim on an element
abbrev pub IsAny : {T : Type 0} → T → Type 0
IsAny t = ⊤

-- ---- node sizes

-- a parent with between `min` and `max` children
abbrev pub HasSize : {T E : Type 0} → ℕ → ℕ → ParentNode T E → Type 0
HasSize min max p = (min ≤ length (children_of p)) × (length (children_of p) ≤ max)

-- trees whose parents have such sizes, with their leaves this many levels below
abbrev pub AreSized : {T E : Type 0} → ℕ → ℕ → ℕ → List (RTreeNode T E) → Type 0
AreSized min max h ns = AreTrees (HasSize min max) IsAny h ns

-- a root with at most `max` children, above such trees
abbrev pub IsSizedTree : {T E : Type 0} → ℕ → ℕ → ℕ → ParentNode T E → Type 0
IsSizedTree min max h root = AreSized min max h (children_of root) × (vec_len root.children ≤ max)

-- the root has at most `max` children, every other parent between `min` and `max`
pub record IsSized {T E : Type 0} (min max : ℕ) (root : ParentNode T E) : Type 0 where
  pub height : ℕ
  pub most : length (children_of root) ≤ max
  pub below : AreTrees (HasSize min max) IsAny height (children_of root)
