-- What a tree shows, and what it keeps.
-- T is the element's type, D the type of the node sizes, E its envelope's, P its point's, S its scalar's, X what a
-- scalar's text is refused with.
use Rattle.std.specs.Prelude.{◌≡◌, ◌+◌, ◌<◌, ◌≤◌, ◌^◌, ℕ, List, [], length}
use Rattle.std.specs.List.{AllByRecursion}
use Rattle.rstar_base.specs.Envelopes.{Boxes}
use Rattle.rstar_base.specs.Elements.{Objects}
use Rattle.rstar.specs.declared.node.ParentNode.{ParentNode}
use Rattle.rstar.specs.declared.rtree.RTree.{RTree}
use Rattle.rstar.specs.Nodes.{children_of, elements_of, envelopes_of, IsWhole}
use Rattle.rstar.specs.Shown.{shown_root, outline}
use Rattle.rstar.specs.Shapes.{AreTrees, IsAny}
use Rattle.rstar.specs.Heights.{levels_below}
use Rattle.rstar.specs.inside.ParentBounds.{HasAtMost, IsSpare}

-- the root of a tree
abbrev pub root_of : {T D E P S X : Type 0} → RTree T D E P S X → ParentNode T E
root_of tree = tree.root

-- the size of a tree
abbrev pub size_of : {T D E P S X : Type 0} → RTree T D E P S X → ℕ
size_of tree = tree.size

-- the elements of a tree, left to right
abbrev pub elements_in : {T D E P S X : Type 0} → RTree T D E P S X → List T
elements_in tree = elements_of (root_of tree)

-- the envelopes of all parents, each before those below it
abbrev pub envelopes_in : {T D E P S X : Type 0} → RTree T D E P S X → List E
envelopes_in tree = envelopes_of (root_of tree)

-- the tree shows the same nodes, and so the same elements and envelopes, and the same size
pub record IsUnchanged {T D E P S X : Type 0} (old new : RTree T D E P S X) : Type 0 where
  pub shown : shown_root (root_of new) ≡ shown_root (root_of old)
  pub size : size_of new ≡ size_of old
  pub elements : elements_in new ≡ elements_in old
  pub envelopes : envelopes_in new ≡ envelopes_in old

-- the tree shows the same parents, with leaves in the same places, and the same size. Its elements may differ.
pub record HasSameOutline {T D E P S X : Type 0} (old new : RTree T D E P S X) : Type 0 where
  pub outline : outline (shown_root (root_of new)) ≡ outline (shown_root (root_of old))
  pub size : size_of new ≡ size_of old

module _ {T D E P S X : Type 0} (v : Boxes E) (o : Objects T E) (max : ℕ) where
  -- a whole tree: a whole root whose elements and levels are counted, and the bounds that make insertions safe. `max`
  -- is the most children of a parent.
  pub record WholeTree (tree : RTree T D E P S X) : Type 0 where
    pub root_whole : IsWhole v o (root_of tree)
    pub counted : size_of tree ≡ length (elements_in tree)
    -- the levels of parents below the root, which a `usize` counts
    pub leveled : tree.levels ≡ levels_below (children_of (root_of tree))
    pub low : tree.levels < 2 ^ 64
    -- no parent has more children than the tree's bound, which is at least `max` and can be counted past
    pub wide : max ≤ tree.reserve.widest
    pub wide_fits : tree.reserve.widest + 1 < 2 ^ 64
    pub narrow : HasAtMost tree.reserve.widest (root_of tree)
    pub narrow_below : AreTrees (HasAtMost tree.reserve.widest) IsAny root_whole.height (children_of (root_of tree))
    -- each spare list can hold as many as the bound
    pub spares : AllByRecursion (IsSpare tree.reserve.widest) tree.reserve.spares.items
    -- nothing is left of an overflow
    pub none_over : tree.reserve.overfull.items ≡ []

  -- a whole tree: a whole root (`IsWhole`), with elements and levels counted. Every call leaves one, `clone` where
  -- clones are equal.
  unfoldable pub IsWholeTree : RTree T D E P S X → Type 0
  IsWholeTree tree = WholeTree tree
