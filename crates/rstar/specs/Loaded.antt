-- What a loaded tree looks like, and how deep it goes, after Lee and Lee (2003).
-- T is the element's type, E its envelope's.
use Rattle.std.specs.Prelude.{◌≡◌, ℕ, ℤ, zero, suc, ◌<◌, ◌≤◌, ◌+◌, ◌-◌, ◌*◌, ◌^◌, length, min, max, All, AllPairs, ⊤}
use Rattle.std.specs.Int.{div_ceil}
use Rattle.std.specs.List.{AllByRecursion, Contains}
use Rattle.rstar_base.specs.Clusters.{IsClusterNumber}
use Rattle.rstar_base.specs.Slabs.{NoneAbove}
use Rattle.rstar_base.specs.Envelopes.{Boxes}
use Rattle.rstar_base.specs.Elements.{Objects}
use Rattle.rstar.specs.declared.node.ParentNode.{ParentNode}
use Rattle.rstar.specs.declared.node.RTreeNode.{RTreeNode}
use Rattle.rstar.specs.Nodes.{elements, elements_of, children_of, IsLeafOf, IsParentOf}
use Rattle.rstar.specs.Shapes.{IsAny}

-- ---- how deep a load goes

-- n elements in c slabs: some slab has s elements. All slabs have the same length but the last, which has the rest.
abbrev pub IsSlabSize : ℕ → ℕ → ℕ → Type 0
IsSlabSize c n s = (j : ℕ) × (j * div_ceil n c < n) × (s ≡ min (div_ceil n c) (n - j * div_ceil n c))

-- n elements in c slabs along each axis: some part has m elements
abbrev pub IsPartSize : ℕ → ℕ → ℕ → ℕ → Type 0
IsPartSize c zero n m = m ≡ n
IsPartSize c (suc axes) n m = (s : ℕ) × IsSlabSize c n s × IsPartSize c axes s m

-- a bulk load cuts n elements into parts, of which one has m
abbrev pub IsLoadPart : ℕ → ℕ → ℕ → ℕ → Type 0
IsLoadPart most axes n m = (c : ℕ) × IsClusterNumber most axes n c × IsPartSize (max c 2) axes n m

-- on so many levels, every part of n elements is too large for one parent
abbrev pub GoesDeep : ℕ → ℕ → ℕ → ℕ → Type 0
GoesDeep most axes zero n = ⊤
GoesDeep most axes (suc below) n = (most < n) × ((m : ℕ) → IsLoadPart most axes n m → GoesDeep most axes below m)

-- some part that many levels below fits one parent
abbrev pub EndsAt : ℕ → ℕ → ℕ → ℕ → Type 0
EndsAt most axes zero n = n ≤ most
EndsAt most axes (suc below) n = (m : ℕ) × IsLoadPart most axes n m × EndsAt most axes below m

-- the levels of parents below the root of a load of n elements: the least depth at which some part fits one parent
pub record IsLoadDepth (most axes n levels : ℕ) : Type 0 where
  pub deep : GoesDeep most axes levels n
  pub ends : EndsAt most axes levels n

-- ---- how its parents are cut

module _ {T E : Type 0} (key : T → ℕ → ℤ) where
  -- on some axis no element of the second node has a greater key than one of the first
  abbrev pub IsParted : ℕ → RTreeNode T E → RTreeNode T E → Type 0
  IsParted axes m n = (axis : ℕ) × (axis < axes) × NoneAbove (λ t. key t axis) (elements n) (elements m)

  -- a parent of parents: it has more elements than fit one parent, each child has at most half of them, rounded up,
  -- and any two children are parted
  pub record IsCut (most axes : ℕ) (p : ParentNode T E) : Type 0 where
    pub many : most < length (elements_of p)
    pub halves : All (λ n. 2 * length (elements n) ≤ length (elements_of p) + 1) (children_of p)
    pub few : length (children_of p) ≤ max most (2 ^ axes)
    pub parted : AllPairs (IsParted axes) (children_of p)

  -- each parent of parents, from this one down, is cut
  abbrev pub IsCutAbove : ℕ → ℕ → ℕ → ParentNode T E → Type 0
  IsCutAbove most axes zero p = AllByRecursion (IsLeafOf IsAny) (children_of p)
  IsCutAbove most axes (suc h) p =
      IsCut most axes p × AllByRecursion (IsParentOf (IsCutAbove most axes h)) (children_of p)

-- some parent of leaves has at most `most` children
abbrev pub HasSmallParent : {T E : Type 0} → ℕ → ℕ → ParentNode T E → Type 0
HasSmallParent most zero p = length (children_of p) ≤ most
HasSmallParent {T} {E} most (suc h) p =
    (n : RTreeNode T E) × Contains (children_of p) n × IsParentOf (HasSmallParent most h) n

-- a bulk-loaded root (Lee and Lee 2003): each parent of parents is cut (`IsCut`), the depth is `IsLoadDepth`, and some
-- parent of leaves has at most `most` children
pub record IsLoaded {T E : Type 0} (v : Boxes E) (o : Objects T E) (most axes : ℕ) (root : ParentNode T E)
    : Type 0 where
  pub levels : ℕ
  pub cut : IsCutAbove (λ t axis. v.axis_key (o.box_of t) axis) most axes levels root
  pub small : HasSmallParent most levels root
  pub depth : IsLoadDepth most axes (length (elements_of root)) levels
