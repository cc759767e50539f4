-- How high a tree is, and how many spare child lists an insertion is prepared with.
use Rattle.std.specs.Prelude.{ℕ, ◌+◌, ◌*◌, max, List, [], ◌∷◌, map}
use Rattle.rstar.specs.declared.node.RTreeNode.{RTreeNode}
use Rattle.rstar.specs.declared.node.ParentNode.{ParentNode}
use Rattle.rstar.specs.Nodes.{fold_tree, children_of}

-- the first number of a list, 0 of none
abbrev pub first_of : List ℕ → ℕ
first_of [] = 0
first_of (n ∷ rest) = n

-- the levels of parents of a node, along its first children
unfoldable pub levels : {T E : Type 0} → RTreeNode T E → ℕ
levels n = fold_tree (λ t. 0) (λ e below. 1 + first_of below) n

-- the levels of parents of several nodes, along the first
abbrev pub levels_below : {T E : Type 0} → List (RTreeNode T E) → ℕ
levels_below ns = first_of (map levels ns)

-- the levels of parents of a tree; an empty root counts 1
abbrev pub height_of : {T E : Type 0} → ParentNode T E → ℕ
height_of root = 1 + levels_below (children_of root)

-- the spare child lists of an insertion: each of the reinserted children, and at least one, may take one on each level,
-- for a parent that splits or has a full list, and one for a new root
abbrev pub spare_lists : ℕ → ℕ → ℕ
spare_lists reinserted height = max 1 reinserted * (height + reinserted + 2)
