-- What a join of a tree with itself gives, and what it counts.
-- T is the element's type, E its envelope's. `meets` says whether an envelope intersects another.
use Rattle.std.specs.Prelude.{◌≡◌, ℕ, zero, suc, ◌+◌, ◌<◌, ◌≤◌, min, Bool, true, false, List, [], ◌∷◌, ◌++◌, map, filter, Option, IfNone, ⊤}
use Rattle.std.specs.Borrow.{Bor}
use Rattle.std.specs.Iterator.{YieldsFirstBy}
use Rattle.rstar_base.specs.Counts.{usize_max}
use Rattle.rstar_base.specs.Envelopes.{Boxes}
use Rattle.rstar_base.specs.Elements.{Objects}
use Rattle.rstar.specs.declared.node.RTreeNode.{RTreeNode}
use Rattle.rstar.specs.declared.node.ParentNode.{ParentNode}
use Rattle.rstar.specs.declared.iterators.joins.selves.SelfIntersectionIterator.{SelfIntersectionIterator}
use Rattle.rstar.specs.Heights.{levels_below}
use Rattle.rstar.specs.Lists.{product}
use Rattle.rstar.specs.Nodes.{fold_tree, all_parents, children_of, AreWhole}
use Rattle.rstar.specs.Meets.{opened_to}
use Rattle.rstar.specs.inside.PairWalks.{pairs_below, opens_below, pairs_by, opens_by, IsWalk}

-- ---- the answer, over lists

-- each item with each of those behind it
abbrev pub pairs_behind : {A : Type 0} → List A → List (A × A)
pairs_behind [] = []
pairs_behind (x ∷ xs) = map (λ y. (x, y)) xs ++ pairs_behind xs

-- the join of a list with itself: the pairs of a place and one behind it whose envelopes intersect
abbrev pub self_join : {T E : Type 0} → (E → E → Bool) → (T → E) → List T → List (T × T)
self_join meets box_of ts = filter (λ p. meets (box_of p.0) (box_of p.1)) (pairs_behind ts)

-- ---- the pairs of nodes that a walk asks: each node with those behind it in its list, on every level

abbrev pub Lists : (T E : Type 0) → Type 0
Lists T E = List (Bor (List (RTreeNode T E)))

module _ {T E : Type 0} where
  abbrev pub siblings_by : (RTreeNode T E → List (RTreeNode T E × RTreeNode T E)) → List (RTreeNode T E) → List (RTreeNode T E × RTreeNode T E)
  siblings_by below [] = []
  siblings_by below (n ∷ ns) = product (n ∷ []) ns ++ (below n ++ siblings_by below ns)

  -- below a node, so many levels further
  abbrev pub siblings_below : ℕ → RTreeNode T E → List (RTreeNode T E × RTreeNode T E)
  siblings_below zero n = []
  siblings_below (suc h) n = siblings_by (siblings_below h) (opened_to n)

  abbrev pub siblings : List (RTreeNode T E) → List (RTreeNode T E × RTreeNode T E)
  siblings ns = siblings_by (siblings_below (levels_below ns)) ns

  -- the root of a join of a tree with itself
  abbrev pub own_root : SelfIntersectionIterator T E → ParentNode T E
  own_root it = it.root.now

  -- how many pairs of nodes it has visited
  abbrev pub own_opened : SelfIntersectionIterator T E → ℕ
  own_opened it = it.walk.opened

module _ {T E : Type 0} (meets : E → E → Bool) (box_of : T → E) where
  -- the pairs that a list of nodes gives, and how many pairs of nodes it visits: each parent with itself, and what a join
  -- visits of two nodes of one list
  abbrev pub pairs_within : List (RTreeNode T E) → List (T × T)
  pairs_within ns = pairs_below meets box_of box_of (siblings ns)

  abbrev pub opens_within : List (RTreeNode T E) → ℕ
  opens_within ns = all_parents ns + opens_below meets box_of box_of (siblings ns)

  -- the same of a root's children and the root; 0 without children
  abbrev pub own_meet_of : List (RTreeNode T E) → ℕ
  own_meet_of [] = 0
  own_meet_of (n ∷ ns) = 1 + opens_within (n ∷ ns)

  -- the pairs of nodes visited of a root: each parent with itself, and what a join visits of two nodes of one list
  abbrev pub own_meet : ParentNode T E → ℕ
  own_meet root = own_meet_of (children_of root)

  -- of several lists, the last first
  abbrev pub pairs_from_lists : Lists T E → List (T × T)
  pairs_from_lists [] = []
  pairs_from_lists (nodes ∷ lists) = pairs_from_lists lists ++ pairs_within nodes.now

  abbrev pub opens_from_lists : Lists T E → ℕ
  opens_from_lists [] = 0
  opens_from_lists (nodes ∷ lists) = opens_from_lists lists + opens_within nodes.now

  -- the pairs that an iterator still gives, in order, and how many it still opens
  abbrev pub own_pairs : SelfIntersectionIterator T E → List (T × T)
  own_pairs it = pairs_by meets box_of box_of it.walk ++ pairs_from_lists it.lists.items

  abbrev pub own_opens : SelfIntersectionIterator T E → ℕ
  own_opens it = opens_by meets box_of box_of it.walk + opens_from_lists it.lists.items

  -- the pairs that such a join still yields, in order
  unfoldable pub own_to_come : SelfIntersectionIterator T E → List (T × T)
  own_to_come it = own_pairs it

-- ---- how many lists a walk takes at most

abbrev pub list_weight : List ℕ → ℕ
list_weight [] = 1
list_weight (w ∷ ws) = 1 + w + list_weight ws

unfoldable pub weight : {T E : Type 0} → RTreeNode T E → ℕ
weight n = fold_tree (λ t. 0) (λ e below. list_weight below) n

abbrev pub weight_of : {T E : Type 0} → Lists T E → ℕ
weight_of [] = 0
weight_of (nodes ∷ lists) = weight_of lists + list_weight (map weight nodes.now)

-- ---- what it keeps

module _ {T E : Type 0} (v : Boxes E) (o : Objects T E) where
  -- whole nodes, in each list on a lower level than in those before it, and below level h
  abbrev pub AreLists : ℕ → Lists T E → Type 0
  AreLists h [] = ⊤
  AreLists h (nodes ∷ lists) = (level : ℕ) × (level < h) × AreWhole v o level nodes.now × AreLists level lists

  -- room for the lists and walks that may come, and the count: the pairs opened and those still to be opened are all
  pub record HasItsLists (meets : E → E → Bool) (it : SelfIntersectionIterator T E) : Type 0 where
    pub walk : IsWalk meets o.box_of o.box_of it.walk
    pub height : ℕ
    pub room : height ≤ it.walk.path.capacity
    pub lists : AreLists (height + 1) it.lists.items
    pub fits : height + 1 ≤ it.lists.capacity
    pub count : ℕ
    pub counted : it.walk.opened ≡ min count usize_max
    pub all : count + own_opens meets o.box_of it ≡ own_meet meets o.box_of it.root.now

  -- what it keeps between calls of `next`
  unfoldable pub IsSelfJoining : (E → E → Bool) → SelfIntersectionIterator T E → Type 0
  IsSelfJoining meets it = HasItsLists meets it

  -- a list was taken, or there was none, and nothing is left
  pub record IsEntered (meets : E → E → Bool) (old : SelfIntersectionIterator T E) (r : Bool)
      (new : SelfIntersectionIterator T E) : Type 0 where
    pub lists : HasItsLists meets new
    pub root : new.root.now ≡ old.root.now
    pub given : own_pairs meets o.box_of old ≡ own_pairs meets o.box_of new
    pub nearer : r ≡ true → weight_of new.lists.items < weight_of old.lists.items
    pub over : r ≡ false → (own_pairs meets o.box_of new ≡ []) × (own_opens meets o.box_of new ≡ 0)

  -- such a join at its start: over this root, with at most one pair of nodes visited
  pub record IsSelfJoinMade (meets : E → E → Bool) (root : ParentNode T E) (it : SelfIntersectionIterator T E) : Type 0 where
    pub over : own_root it ≡ root
    pub opened : own_opened it ≤ 1
    pub at_most : own_opened it ≤ own_meet meets o.box_of root

  -- a call of `next`: it yields the first pair that is to come; at the end it has visited `own_meet` pairs, and never more
  pub record GivesOwnPair (meets : E → E → Bool) (old : SelfIntersectionIterator T E) (r : Option (Bor T × Bor T))
      (new : SelfIntersectionIterator T E) : Type 0 where
    pub gives : YieldsFirstBy (λ p. (p.0.now, p.1.now)) (own_to_come meets o.box_of) old r new
    pub root : own_root new ≡ own_root old
    pub joining : IsSelfJoining meets new
    pub ended : IfNone r (own_opened new ≡ min (own_meet meets o.box_of (own_root old)) usize_max)
    pub at_most : own_opened new ≤ own_meet meets o.box_of (own_root old)
