-- What a search for the first few elements keeps: those found so far, a bound for the nearest, and the parents that wait.
-- T is the element's type, E its envelope's, S its scalar's.
use Rattle.std.specs.Prelude.{◌≡◌, ℕ, ◌+◌, ◌<◌, ◌≤◌, ◌<ℤ◌, ◌≤ℤ◌, ◌⊎◌, ℤ, pos, Bool, true, false, List, [], ◌∷◌, ◌++◌, length, map, Option, Some, None, Result, IsOk, IfOk, IfSome, IfNone, MatchOption, option_to_list}
use Rattle.std.specs.Borrow.{Bor}
use Rattle.std.specs.Int.{int_min}
use Rattle.std.specs.List.{AllByRecursion, Contains, insert}
use Rattle.std.specs.List.Sorted.{IsPermutation}
use Rattle.std.specs.Ordering.{flip_args, is_lt}
use Rattle.std.specs.declared.cmp.Ordering.{Ordering}
use Rattle.rstar_base.specs.Envelopes.{Boxes}
use Rattle.rstar_base.specs.Elements.{Objects, Distances}
use Rattle.rstar_base.specs.SmallHeaps.{Held, items_of, IsOrdered, Rises}
use Rattle.rstar.specs.declared.node.RTreeNode.{RTreeNode, Parent}
use Rattle.rstar.specs.declared.node.ParentNode.{ParentNode}
use Rattle.rstar.specs.declared.algorithm.nearest_neighbor.few.Best.{Best}
use Rattle.rstar.specs.declared.algorithm.nearest_neighbor.few.Kept.{Kept}
use Rattle.rstar.specs.declared.algorithm.nearest_neighbor.few.Kept.TheVariants.{One, Few}
use Rattle.rstar.specs.declared.algorithm.nearest_neighbor.waiting.Waiting.{Waiting}
use Rattle.rstar.specs.Lists.{IsNearest, IsNotLater, AreFirstOf}
use Rattle.rstar.specs.Nodes.{all_elements, all_parents, elements_of, parents_of, envelope_of}
use Rattle.rstar.specs.inside.Searches.{any_first, AreWholeNodes, distance_of, nearest_on_top}

-- ---- a list of the greatest

-- an item went into a list in which there was room for one more of so many
pub record GoesIn {X : Type 0} (most : ℕ) (x : X) (old new : List X) : Type 0 where
  pub room : length old < most
  pub place : ℕ
  pub is : new ≡ insert old place x

-- it went into a full list, whose last item, which is less, went out
pub record PushesOut {X : Type 0} (compare : X → X → Ordering) (most : ℕ) (x : X) (old new : List X) : Type 0 where
  pub full : most ≤ length old
  pub front : List X
  pub last : X
  pub was : old ≡ front ++ last ∷ []
  pub less : is_lt (compare last x) ≡ true
  pub place : ℕ
  pub is : new ≡ insert front place x

-- it did not go into a full list, whose last item is not less
pub record StaysOut {X : Type 0} (compare : X → X → Ordering) (most : ℕ) (x : X) (old new : List X) : Type 0 where
  pub full : most ≤ length old
  pub not_less : (front : List X) (last : X) → old ≡ front ++ last ∷ [] → is_lt (compare last x) ≡ false
  pub is : new ≡ old

-- what becomes of a list of the greatest where one more item comes
abbrev pub KeepsGreatest : {X : Type 0} → (X → X → Ordering) → ℕ → X → List X → List X → Type 0
KeepsGreatest compare most x old new = GoesIn most x old new ⊎ (PushesOut compare most x old new ⊎ StaysOut compare most x old new)

-- ---- the search

-- an element that was found, lent at its distance; O says how ties are broken
abbrev pub Found : (T S O : Type 0) → Type 0
Found T S O = Waiting (Bor T) S O

abbrev pub found_elements : {T S O : Type 0} → List (Found T S O) → List T
found_elements ws = map (λ w. w.node.now) ws

-- those that are kept, the nearest first
abbrev pub kept_in : {T S O : Type 0} → Kept T S O → List (Found T S O)
kept_in (One w) = option_to_list w
kept_in (Few ws) = ws.items

-- whether one is kept in place
abbrev pub is_one : {T S O : Type 0} → Kept T S O → Bool
is_one (One w) = true
is_one (Few ws) = false

-- as many as asked for were found, one of them at this distance, and none farther
pub record IsFarthest {T S O : Type 0} (value : S → ℤ) (most : ℕ) (found : List (Found T S O)) (s : S) : Type 0 where
  pub full : most ≤ length found
  pub last : Found T S O
  pub among : Contains found last
  pub at : s ≡ last.distance
  pub within : AllByRecursion (λ w. value w.distance ≤ℤ value s) found

-- one element that is asked for is kept in place, and the bound of several is the distance of the last of a full list
abbrev pub IsKept : {T S O : Type 0} → (S → ℤ) → ℕ → Option S → Kept T S O → Type 0
IsKept value most bound (One w) = most ≡ 1
IsKept value most bound (Few ws) = IfSome bound (IsFarthest value most ws.items)

-- the parents that wait in a heap, as nodes
abbrev pub waiting_parents : {T E S O : Type 0} → List (Waiting (Bor (ParentNode T E)) S O) → List (RTreeNode T E)
waiting_parents ws = map (λ w. Parent w.node.now) ws

-- each waits at its own distance
abbrev pub WaitAtDistance : {T E S O : Type 0} → Boxes E → Distances T → List ℤ → (S → ℤ) → List (Waiting (Bor (ParentNode T E)) S O) → Type 0
WaitAtDistance v d p value ws = AllByRecursion (λ w. value w.distance ≡ pos (distance_of v d p (Parent w.node.now))) ws

-- all elements are those of the nodes that wait and those that were seen, of which the first so many, or all, are found
pub record AreFoundSoFar {T E S O : Type 0} (v : Boxes E) (o : Objects T E) (d : Distances T) (p : List ℤ)
    (compare : T → T → Ordering) (value : S → ℤ) (most : ℕ) (all : List T) (nodes : List (RTreeNode T E))
    (found : List (Found T S O)) : Type 0 where
  pub parts : AreWholeNodes v o nodes
  pub seen : List T
  pub bag : IsPermutation all (all_elements nodes ++ seen)
  pub first : AreFirstOf (IsNotLater (λ t. d.distance_2 t p) compare) seen most (found_elements found)
  pub at : AllByRecursion (λ w. value w.distance ≡ pos (d.distance_2 w.node.now p)) found

-- ---- a bound, above which elements are cut

-- each element that was cut lies above it, and not all that are left do
pub record IsBound {T : Type 0} (distance : T → ℕ) (left cut : List T) (bound : ℤ) : Type 0 where
  pub above : AllByRecursion (λ t. bound <ℤ pos (distance t)) cut
  pub within : AllByRecursion (λ t. bound <ℤ pos (distance t)) left → ⊥

-- a distance lies above a bound, where there is one
abbrev pub IsAbove : {S : Type 0} → (S → ℤ) → Option S → ℕ → Type 0
IsAbove value None distance = ⊥
IsAbove value (Some s) distance = value s <ℤ pos distance

-- a bound is left as it is, or lowered to some reach at most
abbrev pub IsLowered : {S : Type 0} → (S → ℤ) → ℕ → Option S → Option S → Type 0
IsLowered {S} value reach old new =
    (new ≡ old) ⊎ ((s : S) × (new ≡ Some s) × MatchOption old (value s ≡ pos reach) (λ b. value s ≡ int_min (value b) (pos reach)))

-- a bound is left as it is, or lowered, and not all that were found lie above it
abbrev pub IsTightened : {T S O : Type 0} → (S → ℤ) → Option S → Option S → List (Found T S O) → Type 0
IsTightened {T} {S} {O} value old new found =
    (new ≡ old) ⊎ ((s : S) × (new ≡ Some s) × IfSome old (λ b. value s ≤ℤ value b) × (AllByRecursion (λ w. value s <ℤ value w.distance) found → ⊥))

-- all elements are those that are left and those that were cut, which are none where there is no bound
pub record IsSeeking {T E S O : Type 0} (v : Boxes E) (o : Objects T E) (d : Distances T) (p : List ℤ)
    (compare : T → T → Ordering) (value : S → ℤ) (most : ℕ) (all : List T) (nodes : List (RTreeNode T E))
    (bound : Option S) (found : List (Found T S O)) : Type 0 where
  pub left : List T
  pub cut : List T
  pub bag : IsPermutation all (left ++ cut)
  pub bounded : MatchOption bound (cut ≡ []) (λ s. IsBound (λ t. d.distance_2 t p) left cut (value s))
  pub so_far : AreFoundSoFar v o d p compare value most left nodes found

-- ---- steps

-- what waits and what is kept stay in order, and what is kept stays one in place or a list; also where memory is refused
pub record StaysInOrder {T E S O Y : Type 0} (scalars : S → S → Ordering) (compare : T → T → Ordering) (old : Best T S O)
    (heap : Held (Waiting (Bor (ParentNode T E)) S Y)) (new : Best T S O) : Type 0 where
  pub ordered : IsOrdered (nearest_on_top scalars any_first) heap
  pub falls : Rises (flip_args (nearest_on_top scalars compare)) (kept_in new.kept)
  pub same : is_one new.kept ≡ is_one old.kept

module _ {S T : Type 0} (scalars : S → S → Ordering) (compare : T → T → Ordering) (value : S → ℤ) (most : ℕ) where
  -- the best so far are in order, and the bound fits them
  pub record IsBest {O : Type 0} (best : Best T S O) : Type 0 where
    pub kept : IsKept value most best.bound best.kept
    pub falls : Rises (flip_args (nearest_on_top scalars compare)) (kept_in best.kept)

  -- one more element comes, which does not lie above the bound
  pub record TakesIn {O : Type 0} (w : Found T S O) (old new : Best T S O) : Type 0 where
    pub best : IsBest new
    pub keeps : KeepsGreatest (nearest_on_top scalars compare) most w (kept_in old.kept) (kept_in new.kept)
    pub tightened : IsTightened value old.bound new.bound (kept_in new.kept)

  -- some nodes are visited, in front of any others that are left: their parents wait, and of their elements the best are kept
  pub record Visits {E O Y : Type 0} (v : Boxes E) (o : Objects T E) (d : Distances T) (p : List ℤ) (nodes : List (RTreeNode T E))
      (heap : Held (Waiting (Bor (ParentNode T E)) S Y)) (old : Best T S O) (heap' : Held (Waiting (Bor (ParentNode T E)) S Y)) (new : Best T S O)
      : Type 0 where
    pub ordered : IsOrdered (nearest_on_top scalars any_first) heap'
    pub best : IsBest new
    pub same : is_one new.kept ≡ is_one old.kept
    pub waiting : WaitAtDistance v d p value (items_of heap) → WaitAtDistance v d p value (items_of heap')
    pub fewer : all_parents (waiting_parents (items_of heap')) ≤ all_parents (waiting_parents (items_of heap)) + all_parents nodes
    pub first : (all : List T) (rest : List (RTreeNode T E))
        → IsSeeking v o d p compare value most all (waiting_parents (items_of heap) ++ (nodes ++ rest)) old.bound (kept_in old.kept)
        → IsSeeking v o d p compare value most all (waiting_parents (items_of heap') ++ rest) new.bound (kept_in new.kept)

-- ---- the nearest

-- a nearest element of a root is found with its distance, which lies between the two of the root's envelope; `None` where there is no element.
-- A refusal comes only where there are more than 32 parents.
pub record FindsNearest {T E S Z : Type 0} (v : Boxes E) (d : Distances T) (p : List ℤ) (value : S → ℤ) (root : ParentNode T E) (r : Result (Option (Bor T × S)) Z) : Type 0 where
  pub none : IfOk r (λ x. IfNone x (elements_of root ≡ []))
  pub nearest : IfOk r (λ x. IfSome x (λ n. IsNearest (λ t. d.distance_2 t p) (elements_of root) n.0.now))
  pub distance : IfOk r (λ x. IfSome x (λ n. value n.1 ≡ pos (d.distance_2 n.0.now p)))
  pub not_below : IfOk r (λ x. IfSome x (λ n. v.distance_2 (envelope_of root) p ≤ d.distance_2 n.0.now p))
  pub not_above : IfOk r (λ x. IfSome x (λ n. d.distance_2 n.0.now p ≤ v.min_max_dist_2 (envelope_of root) p))
  pub few : parents_of root ≤ 32 → IsOk r
