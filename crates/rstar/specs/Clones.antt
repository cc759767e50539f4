-- What a clone of a tree has.
use Rattle.std.specs.Prelude.{◌≡◌, ℕ, zero, suc}
use Rattle.std.specs.List.{AllZip}
use Rattle.rstar.specs.declared.node.RTreeNode.{RTreeNode, Leaf, Parent}
use Rattle.rstar.specs.declared.node.ParentNode.{ParentNode}
use Rattle.rstar.specs.Nodes.{children_of, envelope_of}

-- each clone of an element is the same value
abbrev pub ClonesEqual : {T : Type 0} → (T → T → Type 0) → Type 0
ClonesEqual {T} is_clone = (t u : T) → is_clone t u → u ≡ t

module _ {T E : Type 0} (is_clone : T → T → Type 0) where
  -- the second node is a clone of the first, with its leaves this many levels below: clones of the elements in their
  -- places, and the same envelopes
  abbrev pub IsNodeClone : ℕ → RTreeNode T E → RTreeNode T E → Type 0
  IsNodeClone zero m n = (t u : T) × (m ≡ Leaf t) × (n ≡ Leaf u) × is_clone t u
  IsNodeClone (suc h) m n =
      (p q : ParentNode T E) × (m ≡ Parent p) × (n ≡ Parent q) × (envelope_of q ≡ envelope_of p)
      × AllZip (IsNodeClone h) (children_of p) (children_of q)

  -- the same of a parent
  pub record IsParentClone (h : ℕ) (p q : ParentNode T E) : Type 0 where
    pub envelope : envelope_of q ≡ envelope_of p
    pub children : AllZip (IsNodeClone h) (children_of p) (children_of q)
