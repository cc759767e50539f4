-- What an iterator over neighbours in the stated order gives, and what it costs. All distances are squared.
-- T is the element's type, E its envelope's, P its point's, S its scalar's.
use Rattle.std.specs.Prelude.{◌≡◌, ℕ, ◌-◌, min, ℤ, pos, List, Option, Result, IfSome, IfOk}
use Rattle.std.specs.Borrow.{Bor}
use Rattle.std.specs.Iterator.{Count}
use Rattle.std.specs.List.{AllByRecursion}
use Rattle.std.specs.declared.alloc.AllocError.{AllocError}
use Rattle.std.specs.declared.cmp.Ordering.{Ordering}
use Rattle.rstar_base.specs.Counts.{usize_max}
use Rattle.rstar_base.specs.Envelopes.{Boxes}
use Rattle.rstar_base.specs.Elements.{Objects, Distances}
use Rattle.rstar_base.specs.Points.{table}
use Rattle.rstar.specs.declared.node.RTreeNode.{RTreeNode}
use Rattle.rstar.specs.declared.node.ParentNode.{ParentNode}
use Rattle.rstar.specs.declared.algorithm.nearest_neighbor.by_order.NeighborsByOrder.{NeighborsByOrder}
use Rattle.rstar.specs.Lists.{IsNotLater}
use Rattle.rstar.specs.Neighbors.{Search, shown, elements_waiting, GivesNeighbor}
use Rattle.rstar.specs.Nodes.{parents_of, far_of}
use Rattle.rstar.specs.inside.Searches.{parents_first, calls_left, IsReady}

-- the iterator over the nodes of a tree
abbrev pub NearestNeighborByOrderIterator : (T E P S : Type 0) → Type 0
NearestNeighborByOrderIterator T E P S = NeighborsByOrder (ParentNode T E) (RTreeNode T E) S P

module _ {T E P S : Type 0} where
  -- what an iterator in the stated order shows
  abbrev pub search_by_order : NearestNeighborByOrderIterator T E P S → Search T E P
  search_by_order it = shown it.search it.point

  -- how many calls of `next` may yield something
  abbrev pub neighbors_left : NearestNeighborByOrderIterator T E P S → Count
  neighbors_left it = calls_left it.search

-- after a neighbour: no waiting element comes before it in the stated order, and exactly the parents at most as far
-- were visited
pub record IsNextInOrder {T E P : Type 0} (v : Boxes E) (d : Distances T) (p : List ℤ) (order : T → T → Ordering)
    (s : Search T E P) (t : T) : Type 0 where
  pub first : AllByRecursion (IsNotLater (λ u. d.distance_2 u p) order t) (elements_waiting s)
  pub opened : s.opened
      ≡ min (parents_of s.root - far_of (λ e. v.distance_2 e p) (d.distance_2 t p) s.root) usize_max

-- `order` is the elements' own, scalars compare by `compare` and mean `value`
module _ {T E P S : Type 0} (v : Boxes E) (o : Objects T E) (d : Distances T) (order : T → T → Ordering) (axes : ℕ)
    (coord : P → ℕ → ℤ) (compare : S → S → Ordering) (value : S → ℤ) where
  -- what an iterator in the stated order keeps between calls of `next`
  unfoldable pub IsSearchingByOrder : NearestNeighborByOrderIterator T E P S → Type 0
  IsSearchingByOrder it = IsReady v d (table axes (coord it.point)) compare (parents_first order) value o it.search

  -- a call of `next`: as `GivesNeighbor`, with the distance, and the element is `IsNextInOrder`
  abbrev pub GivesByOrder : NearestNeighborByOrderIterator T E P S → Option (Result (Bor T × S) AllocError)
      → NearestNeighborByOrderIterator T E P S → Type 0
  GivesByOrder old r new =
      GivesNeighbor v d axes coord (λ x. x.0.now) (search_by_order old) r (search_by_order new)
      × IfSome r (λ y. IfOk y (λ x. IsNextInOrder v d (table axes (coord new.point)) order (search_by_order new) x.0.now))
      × IfSome r (λ y. IfOk y (λ x. value x.1 ≡ pos (d.distance_2 x.0.now (table axes (coord old.point)))))
      × IsSearchingByOrder new
