-- What a join of two trees gives, and what it counts.
-- T, E, P, S, X are the types of the left tree as in Nodes, and U, F, Q, R, Y those of the right one. `meets` says
-- whether an envelope of the left tree intersects one of the right tree.
use Rattle.std.specs.Prelude.{◌≡◌, ℕ, ◌≤◌, min, Bool, List, filter, Option, IfNone}
use Rattle.std.specs.Borrow.{Bor}
use Rattle.std.specs.Iterator.{YieldsFirstBy}
use Rattle.rstar_base.specs.Envelopes.{Boxes}
use Rattle.rstar.specs.declared.node.ParentNode.{ParentNode}
use Rattle.rstar.specs.declared.iterators.joins.IntersectionIterator.{IntersectionIterator}
use Rattle.rstar.specs.Lists.{product}
use Rattle.rstar.specs.Meets.{meet_of_roots}
use Rattle.rstar.specs.inside.PairWalks.{pairs_by, IsWalk, CountsPairs}
use Rattle.rstar_base.specs.Counts.{usize_max}

-- ---- envelopes seen as those of another type

-- an envelope of type F seen as one of type E: values are values, and a merge is the merge
pub record SeenLaws {F E : Type 0} (w : Boxes F) (v : Boxes E) (seen : F → E) : Type 0 where
  pub value : (a : F) → w.IsValue a → v.IsValue (seen a)
  pub merge : (a b : F) → seen (w.merge a b) ≡ v.merge (seen a) (seen b)

-- whether an envelope intersects one of the other type
abbrev pub meets_by : {E F : Type 0} → Boxes E → (F → E) → E → F → Bool
meets_by v seen e f = v.intersects e (seen f)

-- ---- the answer, over lists

-- the join of two lists: all pairs of a place of the first and one of the second whose envelopes intersect
abbrev pub join : {T E U F : Type 0} → (E → F → Bool) → (T → E) → (U → F) → List T → List U → List (T × U)
join meets left_box right_box ts us = filter (λ p. meets (left_box p.0) (right_box p.1)) (product ts us)

-- ---- what an iterator shows: its roots, and how many pairs of nodes it has opened

module _ {T E U F : Type 0} where
  -- the left root of a join
  abbrev pub left_root : IntersectionIterator T U E F → ParentNode T E
  left_root it = it.left.now

  -- the right root of a join
  abbrev pub right_root : IntersectionIterator T U E F → ParentNode U F
  right_root it = it.right.now

  -- how many pairs of nodes a join has visited
  abbrev pub pairs_opened : IntersectionIterator T U E F → ℕ
  pairs_opened it = it.walk.opened

module _ {T E U F : Type 0} (meets : E → F → Bool) (left_box : T → E) (right_box : U → F) where
  -- the pairs that a join still yields, in order
  unfoldable pub pairs_to_come : IntersectionIterator T U E F → List (T × U)
  pairs_to_come it = pairs_by meets left_box right_box it.walk

  -- how many pairs of nodes of its roots intersect
  abbrev pub meet_by : IntersectionIterator T U E F → ℕ
  meet_by it = meet_of_roots meets left_box right_box (left_root it) (right_root it)

  -- what a join keeps between calls of `next`: its traversal, and the count of its pairs of nodes
  pub record HasItsWalk (it : IntersectionIterator T U E F) : Type 0 where
    pub walk : IsWalk meets left_box right_box it.walk
    pub count : CountsPairs meets left_box right_box (meet_by it) it.walk

  -- whether `next` may be called
  unfoldable pub IsJoining : IntersectionIterator T U E F → Type 0
  IsJoining it = HasItsWalk it

  -- a join at its start: over these roots, with at most one pair of nodes visited, and no more than `meet_of_roots`
  pub record IsJoinMade (left : ParentNode T E) (right : ParentNode U F)
      (it : IntersectionIterator T U E F) : Type 0 where
    pub left_over : left_root it ≡ left
    pub right_over : right_root it ≡ right
    pub opened : pairs_opened it ≤ 1
    pub at_most : pairs_opened it ≤ meet_of_roots meets left_box right_box left right

  -- a call of `next`: it yields the first pair that is to come; at the end it has visited `meet_of_roots` pairs of
  -- nodes, and never more
  pub record GivesPair (old : IntersectionIterator T U E F) (r : Option (Bor T × Bor U))
      (new : IntersectionIterator T U E F) : Type 0 where
    pub gives : YieldsFirstBy (λ p. (p.0.now, p.1.now)) pairs_to_come old r new
    pub left : left_root new ≡ left_root old
    pub right : right_root new ≡ right_root old
    pub joining : IsJoining new
    pub ended : IfNone r (pairs_opened new ≡ min (meet_by old) usize_max)
    pub at_most : pairs_opened new ≤ meet_by old
