-- The inside of a load: the parts of a list of elements, and the nodes made of them.
use Rattle.std.specs.Prelude.{◌≡◌, ℕ, ℤ, zero, suc, ◌<◌, ◌≤◌, ◌+◌, ◌-◌, ◌*◌, ◌^◌, ◌++◌, List, length, min, take, drop, All, AllPairs}
use Rattle.std.specs.Int.{div_ceil}
use Rattle.std.specs.List.{AllByRecursion, Contains}
use Rattle.std.specs.List.Sorted.{IsPermutation}
use Rattle.rstar_base.specs.Slabs.{NoneAbove, IsSlabOf}
use Rattle.rstar_base.specs.Envelopes.{Boxes}
use Rattle.rstar_base.specs.Elements.{Objects}
use Rattle.rstar.specs.declared.node.ParentNode.{ParentNode}
use Rattle.rstar.specs.declared.node.RTreeNode.{RTreeNode}
use Rattle.rstar.specs.Nodes.{elements, all_elements, elements_of, IsParentOf, IsElement, IsInner}
use Rattle.rstar.specs.Shapes.{IsParentTree, IsAny}
use Rattle.rstar.specs.Lists.{NoneEmpty}
use Rattle.rstar.specs.inside.ParentBounds.{HasAtMost}
use Rattle.rstar.specs.Loaded.{IsPartSize, EndsAt, IsParted, IsCutAbove, HasSmallParent}

-- the last n items of a list, and those in front of them
abbrev pub last_of : {A : Type 0} → ℕ → List A → List A
last_of n xs = drop (length xs - n) xs

abbrev pub front_of : {A : Type 0} → ℕ → List A → List A
front_of n xs = take (length xs - n) xs

-- a parent can be made of the last `len` elements of a list
pub record CanLoad {T E : Type 0} (v : Boxes E) (o : Objects T E) (len : ℕ) (list : List T) (widest : ℕ) : Type 0 where
  pub some : 0 < len
  pub within : len ≤ length list
  pub elements : NoneEmpty v.is_empty o.box_of list
  pub counted : widest + 1 < 2 ^ 64

-- of the last `rest` items of a list a slab was put behind the others, at most `size` of them; those in front of them all stay
pub record CutsSlab {T : Type 0} (key : T → ℤ) (size rest : ℕ) (old : List T) (slab : ℕ) (new : List T) : Type 0 where
  pub count : slab ≡ min size rest
  pub same : IsPermutation old new
  pub front : front_of rest new ≡ front_of rest old
  pub cut : IsSlabOf key size (last_of rest old) (last_of slab new) (last_of (rest - slab) (front_of slab new))

-- the most elements of a part of n elements, cut along so many axes
abbrev pub part_bound : ℕ → ℕ → ℕ → ℕ
part_bound zero c n = n
part_bound (suc axes) c n = div_ceil n c

-- one of the nodes has m elements
abbrev pub HasNodeOf : {T E : Type 0} → ℕ → List (RTreeNode T E) → Type 0
HasNodeOf {T} {E} m ns = (n : RTreeNode T E) × Contains ns n × (length (elements n) ≡ m)

module _ {T E : Type 0} (key : T → ℕ → ℤ) (Good : RTreeNode T E → Type 0) where
  -- nodes of just these elements, in c slabs along each of the first axes: each node as `Good` says, any two parted on
  -- one of these axes, with a node of each size that a part has
  pub record AreParts (c axes : ℕ) (ts : List T) (ns : List (RTreeNode T E)) : Type 0 where
    pub same : IsPermutation ts (all_elements ns)
    pub good : AllByRecursion Good ns
    pub parted : AllPairs (IsParted key axes) ns
    pub small : All (λ n. length (elements n) ≤ part_bound axes c (length ts)) ns
    pub few : length ns ≤ c ^ axes
    pub each : (m : ℕ) → IsPartSize c axes (length ts) m → HasNodeOf m ns

  -- such nodes were put at the end of a list
  pub record AddsParts (c axes : ℕ) (ts : List T) (old new : List (RTreeNode T E)) : Type 0 where
    pub added : List (RTreeNode T E)
    pub is : new ≡ old ++ added
    pub parts : AreParts c axes ts added

  -- the same while the slabs of one axis are taken: the elements that remain have no greater key on it than those
  -- put in
  pub record IsUnderway (c axis : ℕ) (ts remaining : List T) (old new : List (RTreeNode T E)) : Type 0 where
    pub added : List (RTreeNode T E)
    pub is : new ≡ old ++ added
    pub same : IsPermutation ts (remaining ++ all_elements added)
    pub good : AllByRecursion Good added
    pub parted : AllPairs (IsParted key (axis + 1)) added
    pub small : All (λ n. length (elements n) ≤ div_ceil (length ts) c) added
    pub above : NoneAbove (λ t. key t axis) remaining (all_elements added)
    pub taken : ℕ
    pub left : length remaining ≡ length ts - taken * div_ceil (length ts) c
    pub full : taken * div_ceil (length ts) c < length ts + div_ceil (length ts) c
    pub few : length added ≤ taken * c ^ axis
    pub each : (j m : ℕ) → j < taken
        → IsPartSize c axis (min (div_ceil (length ts) c) (length ts - j * div_ceil (length ts) c)) m
        → HasNodeOf m added

-- a parent that a load made: whole, within the bound, cut, and not too wide at each of the parts where a way down ends
pub record IsFresh {T E : Type 0} (v : Boxes E) (o : Objects T E) (most widest axes h : ℕ)
    (p : ParentNode T E) : Type 0 where
  pub whole : IsParentTree (IsInner v o) (IsElement v o) h p
  pub narrow : IsParentTree (HasAtMost widest) IsAny h p
  pub cut : IsCutAbove (λ t axis. v.axis_key (o.box_of t) axis) most axes h p
  pub small : EndsAt most axes h (length (elements_of p)) → HasSmallParent most h p

-- such a parent as a node
abbrev pub IsFreshNode : {T E : Type 0} → Boxes E → Objects T E → ℕ → ℕ → ℕ → ℕ → RTreeNode T E → Type 0
IsFreshNode v o most widest axes h n = IsParentOf (IsFresh v o most widest axes h) n
