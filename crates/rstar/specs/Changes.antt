-- A change of a tree's elements that leaves its nodes as they are.
-- T is the element's type, D the type of the node sizes, E its envelope's, P its point's, S its scalar's, X what a
-- scalar's text is refused with.
use Rattle.std.specs.Prelude.{◌≡◌, ℕ, zero, suc}
use Rattle.std.specs.List.{AllZip}
use Rattle.rstar_base.specs.Elements.{Objects}
use Rattle.rstar.specs.declared.node.RTreeNode.{RTreeNode}
use Rattle.rstar.specs.declared.node.ParentNode.{ParentNode}
use Rattle.rstar.specs.declared.rtree.RTree.{RTree}
use Rattle.rstar.specs.Nodes.{IsLeafOf, IsParentOf}

-- u has the envelope of t, and is a value where t is one
abbrev pub KeepsBox : {T E : Type 0} → Objects T E → T → T → Type 0
KeepsBox o t u = (o.box_of u ≡ o.box_of t) × (o.IsValue t → o.IsValue u)

-- the parent q is p, with its children changed as K allows
pub record IsChangedParent {T E : Type 0} (K : RTreeNode T E → RTreeNode T E → Type 0)
    (p q : ParentNode T E) : Type 0 where
  pub envelope : q.envelope ≡ p.envelope
  pub children : AllZip K p.children.items q.children.items

-- the second node is the first, with its elements changed as K allows; its leaves lie h levels below
abbrev pub IsChanged : {T E : Type 0} → (T → T → Type 0) → ℕ → RTreeNode T E → RTreeNode T E
    → Type 0
IsChanged K zero n m = IsLeafOf (λ t. IsLeafOf (K t) m) n
IsChanged K (suc h) n m = IsParentOf (λ p. IsParentOf (IsChangedParent (IsChanged K h) p) m) n

-- the second tree is the first, with its elements changed as K allows, and nothing else
pub record IsChangedTree {T D E P S X : Type 0} (K : T → T → Type 0) (h : ℕ) (old new : RTree T D E P S X)
    : Type 0 where
  pub root : IsChangedParent (IsChanged K h) old.root new.root
  pub size : new.size ≡ old.size
  pub levels : new.levels ≡ old.levels
  pub reserve : new.reserve ≡ old.reserve
