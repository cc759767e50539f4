-- What a search for neighbours shows, what an iterator over it gives, and what it costs. All distances are squared.
-- T is the element's type, E its envelope's, P its point's, S its scalar's.
use Rattle.std.specs.Prelude.{◌≡◌, ℕ, ◌+◌, ◌-◌, ◌<◌, ◌≤◌, min, ℤ, pos, List, [], ◌∷◌, length, Option, Result, IfSome, IfNone, IfOk, IfErr}
use Rattle.std.specs.Borrow.{Bor}
use Rattle.std.specs.Iterator.{Count}
use Rattle.std.specs.List.{AllByRecursion}
use Rattle.std.specs.List.Sorted.{IsPermutation}
use Rattle.std.specs.declared.alloc.AllocError.{AllocError}
use Rattle.std.specs.declared.cmp.Ordering.{Ordering}
use Rattle.rstar_base.specs.Envelopes.{Boxes}
use Rattle.rstar_base.specs.Elements.{Objects, Distances}
use Rattle.rstar_base.specs.Points.{table}
use Rattle.rstar.specs.declared.node.RTreeNode.{RTreeNode, Parent}
use Rattle.rstar.specs.declared.node.ParentNode.{ParentNode}
use Rattle.rstar.specs.declared.algorithm.nearest_neighbor.search.Stage.{Stage}
use Rattle.rstar.specs.declared.algorithm.nearest_neighbor.NeighborsWithDistance.{NeighborsWithDistance}
use Rattle.rstar.specs.declared.algorithm.nearest_neighbor.Neighbors.{Neighbors}
use Rattle.rstar.specs.Nodes.{all_elements, all_parents, all_far, parents_of, far_of}
use Rattle.rstar_base.specs.Counts.{usize_max}
use Rattle.rstar.specs.inside.Searches.{NodeSearch, any_first, IsUnrefused, waiting_of, calls_left, IsReady}

-- the two iterators over the nodes of a tree
abbrev pub NearestNeighborDistance2Iterator : (T E P S : Type 0) → Type 0
NearestNeighborDistance2Iterator T E P S = NeighborsWithDistance (ParentNode T E) (RTreeNode T E) S P

abbrev pub NearestNeighborIterator : (T E P S : Type 0) → Type 0
NearestNeighborIterator T E P S = Neighbors (ParentNode T E) (RTreeNode T E) S P

-- ---- what a search shows

-- a search: its root and point, the nodes that wait, how many parents it has visited, and its stage
pub record Search (T E P : Type 0) : Type 0 where
  pub root : ParentNode T E
  pub point : P
  pub waiting : List (RTreeNode T E)
  pub opened : ℕ
  pub stage : Stage

-- a search through these nodes may want memory: a parent is among them, and more than 32 elements lie in them
abbrev pub MayWantMemory : {T E : Type 0} → List (RTreeNode T E) → Type 0
MayWantMemory waiting = (0 < all_parents waiting) × (32 < length (all_elements waiting))

module _ {T E P : Type 0} where
  -- the elements that a search has not yielded
  abbrev pub elements_waiting : Search T E P → List T
  elements_waiting s = all_elements s.waiting

  -- no memory was refused yet
  abbrev pub IsGoingOn : Search T E P → Type 0
  IsGoingOn s = IsUnrefused s.stage

  -- a search at a point, as contracts see it
  abbrev pub shown : {S O : Type 0} → NodeSearch T E S O → P → Search T E P
  shown s point = record {
    root = s.root.now;
    point = point;
    waiting = waiting_of s;
    opened = s.opened;
    stage = s.stage;
  }

  -- the search of an iterator
  abbrev pub search_of : {S : Type 0} → NearestNeighborDistance2Iterator T E P S → Search T E P
  search_of it = shown it.search it.point

  -- an iterator over elements as the iterator with distances
  abbrev pub with_distances : {S : Type 0} → NearestNeighborIterator T E P S → NearestNeighborDistance2Iterator T E P S
  with_distances it = record { search = it.search; point = it.point }

  -- how many calls of `next` may yield something
  abbrev pub neighbors_left : {S : Type 0} → NearestNeighborDistance2Iterator T E P S → Count
  neighbors_left it = calls_left it.search

  -- what a neighbour iterator keeps between calls of `next`
  unfoldable pub IsSearching : {S : Type 0} → Boxes E → Objects T E → Distances T → ℕ → (P → ℕ → ℤ) → (S → S → Ordering) → (S → ℤ)
      → NearestNeighborDistance2Iterator T E P S → Type 0
  IsSearching v o d axes coord compare value it =
      IsReady v d (table axes (coord it.point)) compare any_first value o it.search

-- a search at its start: over this root and point, the root waits, and nothing is visited
pub record HasBegun {T E P : Type 0} (over : ParentNode T E) (at : P) (s : Search T E P) : Type 0 where
  pub root : s.root ≡ over
  pub point : s.point ≡ at
  pub waiting : s.waiting ≡ Parent over ∷ []
  pub opened : s.opened ≡ 0
  pub going_on : IsGoingOn s

-- ---- what a call of `next` gives

module _ {T E : Type 0} (v : Boxes E) (d : Distances T) (p : List ℤ) where
  -- t is removed from what waits, no element left is nearer, and all parents farther than t still wait
  pub record IsNeighbor (root : ParentNode T E) (before after : List (RTreeNode T E)) (t : T) : Type 0 where
    pub bag : IsPermutation (all_elements before) (t ∷ all_elements after)
    pub least : AllByRecursion (λ u. d.distance_2 t p ≤ d.distance_2 u p) (all_elements after)
    pub still_far : all_far (λ e. v.distance_2 e p) (d.distance_2 t p) after
        ≡ far_of (λ e. v.distance_2 e p) (d.distance_2 t p) root

  -- the parents visited and those farther than t are at most all parents: none was visited twice, and none farther
  -- than t
  abbrev pub HasCost : {P : Type 0} → Search T E P → T → Type 0
  HasCost s t = s.opened + far_of (λ e. v.distance_2 e p) (d.distance_2 t p) s.root ≤ parents_of s.root

-- a call of `next`: a nearest waiting element, or `None` where none waits. A refusal comes once, only where a parent
-- waits and more than 32 elements, and then `None`. Visited are the parents that neither wait nor lie below what waits.
pub record GivesNeighbor {T E P A Z : Type 0} (v : Boxes E) (d : Distances T) (axes : ℕ) (coord : P → ℕ → ℤ)
    (element : A → T) (old : Search T E P) (r : Option (Result A Z)) (new : Search T E P) : Type 0 where
  pub root : new.root ≡ old.root
  pub point : new.point ≡ old.point
  pub gives : IfSome r (λ x. IfOk x (λ y. IsNeighbor v d (table axes (coord old.point)) old.root
      old.waiting new.waiting (element y)))
  pub cost : IfSome r (λ x. IfOk x (λ y. HasCost v d (table axes (coord new.point)) new (element y)))
  pub none : IfNone r (IsGoingOn old → elements_waiting old ≡ [])
  pub over : IfNone r (IsGoingOn old → new.waiting ≡ [])
  pub goes_on_at_end : IfNone r (IsGoingOn old → IsGoingOn new)
  pub refused : IfSome r (λ x. IfErr x (λ _. MayWantMemory old.waiting))
  pub goes_on : IfSome r (λ x. IfOk x (λ _. IsGoingOn new))
  pub ends : IfSome r (λ x. IfErr x (λ _. IsGoingOn new → ⊥))
  pub once : IfSome r (λ _. IsGoingOn old)
  pub stays_ended : (IsGoingOn old → ⊥) → IsGoingOn new → ⊥
  pub opened : IsGoingOn new → new.opened ≡ min (parents_of old.root - all_parents new.waiting) usize_max
  pub fewer : IsGoingOn new → all_parents new.waiting ≤ parents_of old.root

-- ---- a call of `next` of each iterator; `next` may be called again, also after `None`

module _ {T E P S : Type 0} (v : Boxes E) (o : Objects T E) (d : Distances T) (axes : ℕ) (coord : P → ℕ → ℤ)
    (compare : S → S → Ordering) (value : S → ℤ) where
  -- a call of `next` of the iterator over elements: `GivesNeighbor`
  abbrev pub GivesElement : NearestNeighborIterator T E P S → Option (Result (Bor T) AllocError)
      → NearestNeighborIterator T E P S → Type 0
  GivesElement old r new =
      GivesNeighbor v d axes coord (λ x. x.now) (search_of (with_distances old)) r (search_of (with_distances new))
      × IsSearching v o d axes coord compare value (with_distances new)

  -- a call of `next` of the iterator with distances: `GivesNeighbor`, with the distance
  abbrev pub GivesWithDistance : NearestNeighborDistance2Iterator T E P S
      → Option (Result (Bor T × S) AllocError) → NearestNeighborDistance2Iterator T E P S → Type 0
  GivesWithDistance old r new =
      GivesNeighbor v d axes coord (λ x. x.0.now) (search_of old) r (search_of new)
      × IfSome r (λ y. IfOk y (λ x. value x.1 ≡ pos (d.distance_2 x.0.now (table axes (coord old.point)))))
      × IsSearching v o d axes coord compare value new
