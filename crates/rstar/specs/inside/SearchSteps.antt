-- What the calls of a search for neighbours do, at the point with the coordinates p.
-- T is the element's type, E its envelope's, S its scalar's.
use Rattle.std.specs.Prelude.{◌≡◌, ℕ, ◌≤◌, ℤ, pos, List, [], Option, Result, IfOk, IfErr, IfSome, IfNone}
use Rattle.std.specs.Borrow.{Bor}
use Rattle.std.specs.List.Sorted.{IsPermutation}
use Rattle.std.specs.declared.alloc.AllocError.{AllocError}
use Rattle.std.specs.declared.cmp.Ordering.{Ordering}
use Rattle.rstar_base.specs.Envelopes.{Boxes}
use Rattle.rstar_base.specs.Elements.{Objects, Distances}
use Rattle.rstar_base.specs.SmallHeaps.{Held, items_of}
use Rattle.rstar.specs.declared.node.RTreeNode.{RTreeNode}
use Rattle.rstar.specs.declared.node.ParentNode.{ParentNode}
use Rattle.rstar.specs.declared.algorithm.nearest_neighbor.search.Stage.TheVariants.{Running, Ended}
use Rattle.rstar.specs.Neighbors.{IsNeighbor, MayWantMemory}
use Rattle.rstar.specs.Nodes.{all_elements, all_parents}
use Rattle.rstar.specs.inside.Searches.{Item, NodeSearch, ComesFirst, IsReady, IsRunning, IsUnrefused, held_by, waiting_nodes, waiting_of}

module _ {T E S O : Type 0} (v : Boxes E) (d : Distances T) (p : List ℤ) (compare : S → S → Ordering)
    (ties : RTreeNode T E → RTreeNode T E → Ordering) (value : S → ℤ) (o : Objects T E) where
  -- a search on its way, with the elements of the nodes that waited before, and no more parents
  pub record IsUnderWay (root : ParentNode T E) (before : List (RTreeNode T E)) (heap : Held (Item T E S O)) (opened : ℕ)
      : Type 0 where
    pub running : IsRunning v d p compare ties value o root heap opened
    pub bag : IsPermutation (all_elements before) (all_elements (waiting_nodes (items_of heap)))
    pub fewer : all_parents (waiting_nodes (items_of heap)) ≤ all_parents before

  -- a search on its way gives the first of those that wait, or none waits
  pub record GivesFirst (old new : NodeSearch T E S O) (r : Option (Bor T × S)) : Type 0 where
    pub running : IsRunning v d p compare ties value o old.root.now new.heap new.opened
    pub gives : IfSome r
        (λ x. IsNeighbor v d p old.root.now (waiting_nodes (held_by old)) (waiting_nodes (held_by new)) x.0.now)
    pub distance : IfSome r (λ x. value x.1 ≡ pos (d.distance_2 x.0.now p))
    pub first : IfSome r (λ x. ComesFirst v d p ties (waiting_nodes (held_by new)) x.0.now)
    pub none : IfNone r (all_elements (waiting_nodes (held_by old)) ≡ [])
    pub over : IfNone r (waiting_nodes (held_by new) ≡ [])

  -- a search gives the first of those that wait, and `None` where none waits; a refusal comes once, and then `None`
  pub record GivesNext (old : NodeSearch T E S O) (r : Option (Result (Bor T × S) AllocError)) (new : NodeSearch T E S O)
      : Type 0 where
    pub root : new.root ≡ old.root
    pub ready : IsReady v d p compare ties value o new
    pub gives : IfSome r
        (λ r. IfOk r (λ x. IsNeighbor v d p old.root.now (waiting_of old) (waiting_of new) x.0.now))
    pub distance : IfSome r (λ r. IfOk r (λ x. value x.1 ≡ pos (d.distance_2 x.0.now p)))
    pub first : IfSome r (λ r. IfOk r (λ x. ComesFirst v d p ties (waiting_of new) x.0.now))
    pub none : IfNone r (IsUnrefused old.stage → all_elements (waiting_of old) ≡ [])
    pub over : IfNone r (IsUnrefused old.stage → waiting_of new ≡ [])
    pub stays : IfNone r (IsUnrefused old.stage → new.stage ≡ Running)
    pub refused : IfSome r (λ r. IfErr r (λ _. MayWantMemory (waiting_of old)))
    pub goes_on : IfSome r (λ r. IfOk r (λ _. new.stage ≡ Running))
    pub ends : IfSome r (λ r. IfErr r (λ _. new.stage ≡ Ended))
    pub once : IfSome r (λ _. IsUnrefused old.stage)
    pub ended : (IsUnrefused old.stage → ⊥) → IsUnrefused new.stage → ⊥
