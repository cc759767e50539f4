-- What an insertion keeps of a tree's parents beside their being whole: a bound on their children.
use Rattle.std.specs.Prelude.{◌≡◌, ℕ, zero, suc, ◌+◌, ◌^◌, ◌≤◌, ◌<◌, List, [], ◌∷◌, length, sum_by, nat_le, if◌then◌else◌, Option, Some, None, IfSome, IfNone, ◌++◌, Vec, vec_len, vec_capacity, false}
use Rattle.std.specs.List.Sorted.{IsPermutation}
use Rattle.std.specs.declared.alloc.Global.{Global}
use Rattle.rstar_base.specs.Envelopes.{Boxes}
use Rattle.rstar_base.specs.Elements.{Objects}
use Rattle.rstar_base.specs.Hulls.{hull}
use Rattle.rstar.specs.declared.node.RTreeNode.{RTreeNode, Parent}
use Rattle.rstar.specs.declared.node.ParentNode.{ParentNode}
use Rattle.rstar.specs.Nodes.{all_elements, children_of, node_box, of_parent, IsElement, IsTight}
use Rattle.rstar.specs.Shapes.{AreTrees, IsParentTree, IsSizedTree, IsAny, HasSize}

-- at most `widest` children
abbrev pub HasAtMost : {T E : Type 0} → ℕ → ParentNode T E → Type 0
HasAtMost widest p = length p.children.items ≤ widest

-- a bound on the children of each parent was raised, and one more can be counted
abbrev pub Widens : ℕ → ℕ → Type 0
Widens old new = (old ≤ new) × (new + 1 < 2 ^ 64)

-- an empty list that can hold so many items
abbrev pub IsSpare : {A : Type 0} → ℕ → Vec A Global → Type 0
IsSpare count v = (v.items ≡ []) × (count ≤ vec_capacity v)

-- children can be handed out: into a list for all that a parent may have, by way of one for one child more
pub record CanHandOut {A : Type 0} (max count widest : ℕ) (handed over : Vec A Global) : Type 0 where
  pub wide : max ≤ widest
  pub reinserts : 0 < count
  pub spare : IsSpare widest handed
  pub overfull : IsSpare (widest + 1) over

-- ---- lists with room

-- 1 where the list can hold so many items, and 0 otherwise
abbrev pub has_room : {A : Type 0} → ℕ → Vec A Global → ℕ
has_room count v = if nat_le count (vec_capacity v) then 1 else 0

-- how many parents have a list that can hold so many children, the node among them, which has its leaves this many levels
-- below; every parent has one that can hold 0
abbrev pub roomy : {T E : Type 0} → ℕ → ℕ → RTreeNode T E → ℕ
roomy count zero n = 0
roomy count (suc h) n = of_parent (λ p. has_room count p.children + sum_by (roomy count h) (children_of p)) n

-- the same of several nodes
abbrev pub all_roomy : {T E : Type 0} → ℕ → ℕ → List (RTreeNode T E) → ℕ
all_roomy count h ns = sum_by (roomy count h) ns

-- the same of a parent above such nodes
abbrev pub roomy_of : {T E : Type 0} → ℕ → ℕ → ParentNode T E → ℕ
roomy_of count h p = has_room count p.children + all_roomy count h (children_of p)

-- the same of a parent that may be there
abbrev pub second_roomy : {T E : Type 0} → ℕ → ℕ → Option (ParentNode T E) → ℕ
second_roomy count h None = 0
second_roomy count h (Some p) = roomy_of count h p

-- ---- a parent while an element goes in

module _ {T E : Type 0} (v : Boxes E) (o : Objects T E) (widest : ℕ) where
  -- tight, and not too wide
  pub record IsKept (p : ParentNode T E) : Type 0 where
    pub tight : IsTight v o p
    pub narrow : HasAtMost widest p

  -- the same of a parent that is not the root
  abbrev pub IsKeptInner : ParentNode T E → Type 0
  IsKeptInner p = IsKept p × (0 < length p.children.items)

  -- a parent whose envelope is the merge of its children's, with a child
  pub record HasMergedBox (p : ParentNode T E) : Type 0 where
    pub merged : p.envelope ≡ hull v (node_box o.box_of) p.children.items
    pub some : 0 < length p.children.items
    pub narrow : HasAtMost widest p

module _ {T E : Type 0} (v : Boxes E) (o : Objects T E) (widest : ℕ) where
  -- trees of such parents over elements
  abbrev pub AreKept : ℕ → List (RTreeNode T E) → Type 0
  AreKept h ns = AreTrees (IsKeptInner v o widest) (IsElement v o) h ns

  abbrev pub IsKeptTree : ℕ → ParentNode T E → Type 0
  IsKeptTree h p = IsParentTree (IsKeptInner v o widest) (IsElement v o) h p

  -- the element can go in below a parent whose children have their leaves so many levels below
  pub record CanTakeIn (h : ℕ) (p : ParentNode T E) (t : T) : Type 0 where
    pub node : IsKept v o widest p
    pub below : AreKept h p.children.items
    pub some : 0 < h → 0 < vec_len p.children
    pub element : v.is_empty (o.box_of t) ≡ false

-- the children of a parent that may be there
abbrev pub second_children : {T E : Type 0} → Option (ParentNode T E) → List (RTreeNode T E)
second_children None = []
second_children (Some p) = p.children.items

-- a parent that may be there, as a list of nodes
abbrev pub as_node : {T E : Type 0} → Option (ParentNode T E) → List (RTreeNode T E)
as_node None = []
as_node (Some p) = Parent p ∷ []

-- the sizes after an insertion that began at a parent of n children, and cut off the second parent where there is one
pub record IsSizedAfter {T E : Type 0} (min max h n : ℕ) (p : ParentNode T E)
    (second : Option (ParentNode T E)) : Type 0 where
  pub below : AreTrees (HasSize min max) IsAny h p.children.items
  pub most : length p.children.items ≤ max
  pub still_least : min ≤ n → min ≤ length p.children.items
  pub cut_least : IfSome second (λ _. min ≤ length p.children.items)
  pub second_sized : IfSome second (IsParentTree (HasSize min max) IsAny h)

module _ {T E : Type 0} (v : Boxes E) (o : Objects T E) (widest min max : ℕ) where
  -- a parent has one child more, and another may have been cut off it
  pub record AddsChild (old : ParentNode T E) (child : RTreeNode T E) (new : ParentNode T E)
      (second : Option (ParentNode T E)) : Type 0 where
    pub same : IsPermutation (old.children.items ++ child ∷ []) (new.children.items ++ second_children second)
    pub first : HasMergedBox v o widest new
    pub second_merged : IfSome second (HasMergedBox v o widest)
    -- only an overflow is cut, and each part then has at least the least number
    pub whole : IfNone second (vec_len new.children ≡ vec_len old.children + 1)
    pub low : IfNone second (vec_len new.children ≤ max)
    pub first_least : IfSome second (λ _. min ≤ vec_len new.children)
    pub second_least : IfSome second (λ p. min ≤ vec_len p.children)
    pub lengths : IfSome second (λ p. vec_len new.children + vec_len p.children ≡ vec_len old.children + 1)
    -- the second part has a spare list
    pub second_room : IfSome second (λ p. widest ≤ vec_capacity p.children)

  -- an element went in below a parent. Others may have been handed out, and another parent cut off.
  pub record GoesIn (h : ℕ) (t : T) (old new : ParentNode T E) (second : Option (ParentNode T E)) (out : List T) : Type 0 where
    pub bag : IsPermutation (t ∷ all_elements old.children.items)
        (all_elements (new.children.items ++ second_children second) ++ out)
    pub first : IsKeptTree v o widest h new
    pub second_kept : IfSome second (IsKeptTree v o widest h)
    pub sized : IsSizedTree min max h old → IsSizedAfter min max h (vec_len old.children) new second
