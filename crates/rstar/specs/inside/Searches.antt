-- The inside of a search for neighbours: the nodes that wait, and what they keep.
-- T is the element's type, E its envelope's, S its scalar's.
use Rattle.std.specs.Prelude.{◌≡◌, ℕ, ◌+◌, ◌-◌, ◌≤◌, min, ℤ, pos, List, [], ◌∷◌, map, length, false, ⊤}
use Rattle.std.specs.Borrow.{Bor}
use Rattle.std.specs.Iterator.{Count, at_most}
use Rattle.std.specs.List.{AllByRecursion, Contains}
use Rattle.std.specs.Option.{option_cmp}
use Rattle.std.specs.Ordering.{on, flip_args, then_cmp, nat_cmp, is_lt}
use Rattle.std.specs.declared.cmp.Ordering.{Ordering}
use Rattle.rstar_base.specs.Envelopes.{Boxes}
use Rattle.rstar_base.specs.Elements.{Objects, Distances}
use Rattle.rstar_base.specs.SmallHeaps.{Held, items_of, IsOrdered}
use Rattle.rstar.specs.declared.node.RTreeNode.{RTreeNode, Leaf, Parent}
use Rattle.rstar.specs.declared.node.ParentNode.{ParentNode}
use Rattle.rstar.specs.declared.algorithm.nearest_neighbor.waiting.Waiting.{Waiting}
use Rattle.rstar.specs.declared.algorithm.nearest_neighbor.search.Stage.{Stage}
use Rattle.rstar.specs.declared.algorithm.nearest_neighbor.search.Stage.TheVariants.{Fresh, Running, Ended}
use Rattle.rstar.specs.declared.algorithm.nearest_neighbor.search.NeighborSearch.{NeighborSearch}
use Rattle.rstar.specs.Nodes.{leaf_element, node_distance, elements, all_elements, all_parents, all_far, parents_of, far_of, IsTree, IsInner, IsElement, IsWhole}
use Rattle.rstar.specs.Lists.{IsNotAfter}
use Rattle.rstar_base.specs.Counts.{usize_max}

-- ---- which of two nodes at equal distance comes first: the lesser

-- either
abbrev pub any_first : {N : Type 0} → N → N → Ordering
any_first = on (λ _. 0) nat_cmp

-- a parent before an element, and elements by their order
abbrev pub parents_first : {T E : Type 0} → (T → T → Ordering)
    → RTreeNode T E → RTreeNode T E → Ordering
parents_first before = on leaf_element (option_cmp before)

-- ties between nodes go by an order of elements: what comes not before a leaf has no element that comes before the leaf's
abbrev pub TiesBy : {T E : Type 0} → (RTreeNode T E → RTreeNode T E → Ordering) → (T → T → Ordering)
    → Type 0
TiesBy {T} {E} ties compare = (n : RTreeNode T E) (t : T) → is_lt (ties n (Leaf t)) ≡ false
    → AllByRecursion (IsNotAfter compare t) (elements n)

-- the nearer of two that wait is the greater, and at equal distance the one that comes first
abbrev pub nearest_on_top : {N S O : Type 0} → (S → S → Ordering) → (N → N → Ordering)
    → Waiting (Bor N) S O → Waiting (Bor N) S O → Ordering
nearest_on_top compare ties = flip_args (then_cmp (on (λ w. w.distance) compare) (on (λ w. w.node.now) ties))

-- ---- the nodes that wait

-- an item of a search's heap: a node that is lent, at its distance. O is the type that says how ties are broken.
abbrev pub Item : (T E S O : Type 0) → Type 0
Item T E S O = Waiting (Bor (RTreeNode T E)) S O

-- the nodes that wait in a heap
abbrev pub waiting_nodes : {T E S O : Type 0} → List (Item T E S O) → List (RTreeNode T E)
waiting_nodes ws = map (λ w. w.node.now) ws

-- whole nodes, of any heights
abbrev pub AreWholeNodes : {T E : Type 0} → Boxes E → Objects T E → List (RTreeNode T E) → Type 0
AreWholeNodes v o ns = AllByRecursion (λ n. (h : ℕ) × IsTree (IsInner v o) (IsElement v o) h n) ns

-- how many parents were opened: those of the root that neither wait nor lie below what waits
pub record CountsOpenings {T E : Type 0} (root : ParentNode T E) (waiting : List (RTreeNode T E))
    (opened : ℕ) : Type 0 where
  pub fewer : all_parents waiting ≤ parents_of root
  pub counts : opened ≡ min (parents_of root - all_parents waiting) usize_max

-- ---- the stages of a search

-- no memory was refused to it yet
abbrev pub IsUnrefused : Stage → Type 0
IsUnrefused Fresh = ⊤
IsUnrefused Running = ⊤
IsUnrefused Ended = ⊥

-- the nodes that wait: the root until it is opened, and then what the heap's items lend
abbrev pub waiting_at : {T E S O : Type 0} → Stage → ParentNode T E → List (Item T E S O)
    → List (RTreeNode T E)
waiting_at Fresh root ws = Parent root ∷ []
waiting_at Running root ws = waiting_nodes ws
waiting_at Ended root ws = waiting_nodes ws

-- how many calls may give something: each element and a refusal
abbrev pub calls_at : {T E S O : Type 0} → Stage → ParentNode T E → List (Item T E S O) → ℕ
calls_at Fresh root ws = length (all_elements (Parent root ∷ [])) + 1
calls_at Running root ws = length (all_elements (waiting_nodes ws)) + 1
calls_at Ended root ws = 0

-- a search over the nodes of a tree
abbrev pub NodeSearch : (T E S O : Type 0) → Type 0
NodeSearch T E S O = NeighborSearch (ParentNode T E) (RTreeNode T E) S O

module _ {T E S O : Type 0} where
  -- the items in the heap of a search
  abbrev pub held_by : NodeSearch T E S O → List (Item T E S O)
  held_by s = items_of s.heap

  -- the nodes that wait in a search
  abbrev pub waiting_of : NodeSearch T E S O → List (RTreeNode T E)
  waiting_of s = waiting_at s.stage s.root.now (held_by s)

  -- how many calls may yield something: one for each element, and one for a refusal
  abbrev pub calls_left : NodeSearch T E S O → Count
  calls_left s = at_most (calls_at s.stage s.root.now (held_by s))

-- ---- what a search keeps, at the point with the coordinates p; scalars compare by `compare` and mean `value`

module _ {T E : Type 0} (v : Boxes E) (d : Distances T) (p : List ℤ) where
  -- the distance at which a node waits
  abbrev pub distance_of : RTreeNode T E → ℕ
  distance_of n = node_distance (λ e. v.distance_2 e p) (λ t. d.distance_2 t p) n

  -- where a waiting node is no farther than some distance, all parents farther than that still wait
  abbrev pub IsFarKept : ParentNode T E → List (RTreeNode T E) → Type 0
  IsFarKept root waiting = (n : RTreeNode T E) (far : ℕ) → Contains waiting n → distance_of n ≤ far
      → all_far (λ e. v.distance_2 e p) far waiting ≡ far_of (λ e. v.distance_2 e p) far root

  -- no node that waits is nearer than an element, and none at its distance comes before its leaf
  abbrev pub ComesFirst : (RTreeNode T E → RTreeNode T E → Ordering) → List (RTreeNode T E) → T → Type 0
  ComesFirst ties waiting t = AllByRecursion (λ n. (d.distance_2 t p ≤ distance_of n)
      × (distance_of n ≡ d.distance_2 t p → is_lt (ties n (Leaf t)) ≡ false)) waiting

  module _ {S O : Type 0} (compare : S → S → Ordering) (ties : RTreeNode T E → RTreeNode T E → Ordering)
      (value : S → ℤ) where
    -- each waits at its own distance, and the heap is in order
    pub record AreWaiting (heap : Held (Item T E S O)) : Type 0 where
      pub ordered : IsOrdered (nearest_on_top compare ties) heap
      pub at : AllByRecursion (λ w. value w.distance ≡ pos (distance_of w.node.now)) (items_of heap)

    -- a search on its way: these items wait of the root, of which so many parents were opened, nearest first
    pub record IsRunning (o : Objects T E) (root : ParentNode T E) (heap : Held (Item T E S O)) (opened : ℕ)
        : Type 0 where
      pub waiting : AreWaiting heap
      pub parts : AreWholeNodes v o (waiting_nodes (items_of heap))
      pub counted : CountsOpenings root (waiting_nodes (items_of heap)) opened
      pub still_far : IsFarKept root (waiting_nodes (items_of heap))

    -- what holds between two calls, until a refusal
    abbrev pub IsReadyAt : Objects T E → Stage → ParentNode T E → Held (Item T E S O) → ℕ → Type 0
    IsReadyAt o Fresh root heap opened =
        IsWhole v o root × (items_of heap ≡ []) × (opened ≡ 0) × AreWaiting heap
    IsReadyAt o Running root heap opened = IsRunning o root heap opened
    IsReadyAt o Ended root heap opened = ⊤

    abbrev pub IsReady : Objects T E → NodeSearch T E S O → Type 0
    IsReady o s = IsReadyAt o s.stage s.root.now s.heap s.opened
