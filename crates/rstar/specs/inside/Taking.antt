-- The inside of a removal: the place in a tree that it goes on from, and what it leaves at each level.
use Rattle.std.specs.Prelude.{◌≡◌, ℕ, ◌≤◌, ◌<◌, ◌+◌, Bool, true, false, List, [], ◌∷◌, take, drop, replicate, length, ◌-◌, suc, ⊤}
use Rattle.std.specs.Prelude.{Option, Some, None, IfSome, IfNone}
use Rattle.std.specs.List.{AllByRecursion}
use Rattle.rstar_base.specs.Envelopes.{Boxes}
use Rattle.rstar_base.specs.Elements.{Objects}
use Rattle.rstar_base.specs.Hulls.{hull}
use Rattle.rstar_base.specs.Selections.{IsLawful}
use Rattle.rstar.specs.declared.algorithm.removal.Rest.{Rest}
use Rattle.rstar.specs.declared.node.ParentNode.{ParentNode}
use Rattle.rstar.specs.declared.node.RTreeNode.{RTreeNode}
use Rattle.rstar.specs.declared.node.RTreeNode.TheOpen as layer
use Rattle.rstar.specs.declared.rtree.RTree.{RTree}
use Rattle.rstar.specs.Nodes.{Layer, layer_of, node_box, elements, all_elements, children_of, IsElement, IsTree}
use Rattle.rstar.specs.inside.ParentBounds.{IsKept, IsKeptInner, AreKept}
use Rattle.rstar.specs.Trees.{root_of, elements_in, IsWholeTree}
use Rattle.rstar.specs.Lists.{NoneSelected}
use Rattle.rstar.specs.inside.Removals.{IsWithout}

-- ---- nodes, by one layer

-- the children of a parent, none of a leaf
abbrev pub children_in : {T E : Type 0} → Layer T E → List (RTreeNode T E)
children_in (layer.Leaf t) = []
children_in (layer.Parent p) = children_of p

abbrev pub node_children : {T E : Type 0} → RTreeNode T E → List (RTreeNode T E)
node_children n = children_in (layer_of n)

-- the children of the first node
abbrev pub first_children : {T E : Type 0} → List (RTreeNode T E) → List (RTreeNode T E)
first_children [] = []
first_children (n ∷ ns) = node_children n

-- whether it is a leaf that is selected
abbrev pub selects_in : {T E : Type 0} → (T → Bool) → Layer T E → Bool
selects_in selects (layer.Leaf t) = selects t
selects_in selects (layer.Parent p) = false

abbrev pub is_selected_leaf : {T E : Type 0} → (T → Bool) → RTreeNode T E → Bool
is_selected_leaf selects n = selects_in selects (layer_of n)

-- whether it is a leaf
abbrev pub leaf_in : {T E : Type 0} → Layer T E → Bool
leaf_in (layer.Leaf t) = true
leaf_in (layer.Parent p) = false

abbrev pub is_a_leaf : {T E : Type 0} → RTreeNode T E → Bool
is_a_leaf n = leaf_in (layer_of n)

abbrev pub is_nil : {A : Type 0} → List A → Bool
is_nil [] = true
is_nil (x ∷ xs) = false

-- whether it is a parent without children
abbrev pub childless_in : {T E : Type 0} → Layer T E → Bool
childless_in (layer.Leaf t) = false
childless_in (layer.Parent p) = is_nil (children_of p)

abbrev pub is_childless : {T E : Type 0} → RTreeNode T E → Bool
is_childless n = childless_in (layer_of n)

-- ---- places

-- no element right of this place is selected: at each level, the number of children to the right, which were passed over
abbrev pub IsPast : {T E : Type 0} → (T → Bool) → List ℕ → List (RTreeNode T E) → Type 0
IsPast selects [] ns = ⊤
IsPast selects (i ∷ path) ns =
    NoneSelected selects (all_elements (drop (length ns - i) ns))
    × IsPast selects path (first_children (drop (length ns - suc i) ns))

-- a place with another number at the first level
abbrev pub with_first : List ℕ → ℕ → List ℕ
with_first [] i = []
with_first (p ∷ path) i = i ∷ path

-- the first number, and the numbers of the levels below
abbrev pub first_number : List ℕ → ℕ
first_number [] = 0
first_number (p ∷ path) = p

abbrev pub lower_numbers : List ℕ → List ℕ
lower_numbers [] = []
lower_numbers (p ∷ path) = path

-- the levels below the first were set back, and with them what was kept there
pub record IsCleared {E : Type 0} (path : List ℕ) (rest : Option (Rest E)) (path' : List ℕ) (rest' : Option (Rest E)) : Type 0 where
  pub long : length path' ≡ length path
  pub numbers : lower_numbers path' ≡ replicate (length (lower_numbers path)) 0
  pub still : length path ≤ 1 → rest' ≡ rest
  pub none : 1 < length path → rest' ≡ None

-- ---- an envelope that is kept at a place

module _ {T E : Type 0} (v : Boxes E) (o : Objects T E) where
  -- it is the merge of the first nodes' envelopes, of as many as are counted
  pub record IsMerged (rest : Rest E) (ns : List (RTreeNode T E)) : Type 0 where
    pub values : AllByRecursion (λ n. v.IsValue (node_box o.box_of n)) (take rest.count ns)
    pub merged : rest.envelope ≡ hull v (node_box o.box_of) (take rest.count ns)

  -- so it is where the next node, with so many to its right, is none of them
  abbrev pub IsRest : Option (Rest E) → ℕ → List (RTreeNode T E) → Type 0
  IsRest None passed ns = ⊤
  IsRest (Some rest) passed ns = rest.count + passed < length ns → IsMerged rest ns

  -- and that at the last number of a place
  abbrev pub IsRestAt : Option (Rest E) → List ℕ → List (RTreeNode T E) → Type 0
  IsRestAt rest [] ns = ⊤
  IsRestAt rest (i ∷ path) ns =
      (length path ≡ 0 → IsRest rest i ns) × IsRestAt rest path (first_children (drop (length ns - suc i) ns))

-- ---- one step; m and w are the bounds of the nodes' lists, h the levels below

module _ {T E : Type 0} (v : Boxes E) (o : Objects T E) (accepts : E → Bool) (selects : T → Bool) where
  -- what it does to a list of nodes, to the place in it and to the envelope that is kept there
  pub record Takes (old : List (RTreeNode T E)) (path : List ℕ) (rest : Option (Rest E)) (given : Option T)
      (new : List (RTreeNode T E)) (path' : List ℕ) (rest' : Option (Rest E)) : Type 0 where
    pub taken : IsWithout (all_elements old) given (all_elements new)
    pub selected : IfSome given (λ x. selects x ≡ true)
    pub whole : (w h : ℕ) → AreKept v o w h old → IsRestAt v o rest path old → AreKept v o w h new
    pub rests : (w h : ℕ) → AreKept v o w h old → IsRestAt v o rest path old → IsRestAt v o rest' path' new
    pub still : length path ≡ 0 → rest' ≡ rest
    pub shorter : length new ≤ length old
    pub past : IsLawful v o accepts selects → (w h : ℕ) → AreKept v o w h old
        → IsPast selects path old → IsPast selects path' new
    pub missed : IfNone given (IsLawful v o accepts selects → (w h : ℕ) → AreKept v o w h old
        → IsPast selects path old → NoneSelected selects (all_elements old))

  -- what it does below one parent, and whether it tells of another envelope
  pub record TakesBelow (old : ParentNode T E) (path : List ℕ) (rest : Option (Rest E)) (given : Option T)
      (new : ParentNode T E) (path' : List ℕ) (rest' : Option (Rest E)) (changed : Bool) : Type 0 where
    pub takes : Takes old.children.items path rest given new.children.items path' rest'
    pub kept : (w h : ℕ) → IsKept v o w old → AreKept v o w h old.children.items
        → IsRestAt v o rest path old.children.items → IsKept v o w new
    pub same : IfNone given (new ≡ old)
    pub unchanged : changed ≡ false → new.envelope ≡ old.envelope

  -- what it does below one node, which may be left without children
  pub record TakesInside (old : RTreeNode T E) (path : List ℕ) (rest : Option (Rest E)) (given : Option T)
      (new : RTreeNode T E) (path' : List ℕ) (rest' : Option (Rest E)) : Type 0 where
    pub taken : IsWithout (elements old) given (elements new)
    pub selected : IfSome given (λ x. selects x ≡ true)
    pub whole : (w h : ℕ) → IsTree (IsKeptInner v o w) (IsElement v o) h old
        → IsRestAt v o rest path (node_children old) → is_childless new ≡ false
        → IsTree (IsKeptInner v o w) (IsElement v o) h new
    pub rests : (w h : ℕ) → IsTree (IsKeptInner v o w) (IsElement v o) h old
        → IsRestAt v o rest path (node_children old) → IsRestAt v o rest' path' (node_children new)
    pub still : length path ≡ 0 → rest' ≡ rest
    pub kept : IfNone given (new ≡ old)
    pub past : IsLawful v o accepts selects → (w h : ℕ) → IsTree (IsKeptInner v o w) (IsElement v o) h old
        → IsPast selects path (node_children old) → IsPast selects path' (node_children new)
    pub missed : IfNone given (IsLawful v o accepts selects → (w h : ℕ)
        → IsTree (IsKeptInner v o w) (IsElement v o) h old → IsPast selects path (node_children old)
        → NoneSelected selects (all_elements (node_children old)))

module _ {T D E P S X : Type 0} (v : Boxes E) (o : Objects T E) (max : ℕ) (accepts : E → Bool)
    (selects : T → Bool) where
  -- one removal from a place of a tree on
  pub record Removes (old : RTree T D E P S X) (path : List ℕ) (rest : Option (Rest E)) (given : Option T)
      (new : RTree T D E P S X) (path' : List ℕ) (rest' : Option (Rest E)) : Type 0 where
    pub whole : IsRestAt v o rest path (children_of (root_of old)) → IsWholeTree v o max new
    pub rests : IsRestAt v o rest path (children_of (root_of old))
        → IsRestAt v o rest' path' (children_of (root_of new))
    pub taken : IsWithout (elements_in old) given (elements_in new)
    pub selected : IfSome given (λ x. selects x ≡ true)
    pub kept : IfNone given (new ≡ old)
    pub past : IsLawful v o accepts selects → IsPast selects path (children_of (root_of old))
        → IsPast selects path' (children_of (root_of new))
    pub missed : IfNone given (IsLawful v o accepts selects → IsPast selects path (children_of (root_of old))
        → NoneSelected selects (elements_in old))
