-- What an iterator over neighbours has given so far are the first of all: call by call, and over whole runs of calls.
use Rattle.std.proofs.Common.{◌≡◌, ℕ, ◌+◌, ◌≤◌, pos, length, Vec, Global, vec_len, vec_capacity, refl, min, ℤ, List, [], ◌∷◌, ◌++◌, map, Option, Some, None, Result, Ok, sym, ap, ◌∙◌, subst, append_assoc, append-nil, arith}
use Rattle.std.specs.Borrow.{Bor}
use Rattle.std.specs.Iterator.{Yields, YieldsThen, TryCollects}
use Rattle.std.specs.declared.alloc.AllocError.{AllocError}
use Rattle.std.specs.declared.cmp.Ordering.{Ordering}
use Rattle.std.specs.Iterator.Adapters.{take_source, take_count, take_steps}
use Rattle.std.specs.declared.iter.Take.{Take}
use Rattle.std.specs.List.{AllByRecursion, FoldsTo}
use Rattle.std.specs.List.Sorted.{IsPermutation}
use Rattle.std.proofs.lemmas.List.{length-map}
use Rattle.std.proofs.lemmas.List.Sorted.{IsPermutation-refl, IsPermutation-trans, IsPermutation-cons, IsPermutation-append_right}
use Rattle.rstar_base.proofs.Lists.{all-append, all_along, all_map, all_first, all_second}
use Rattle.rstar_base.specs.Envelopes.{Boxes}
use Rattle.rstar_base.specs.Elements.{Objects, Distances}
use Rattle.rstar_base.specs.Points.{table}
use Rattle.rstar.specs.declared.node.RTreeNode.{Parent}
use Rattle.rstar.specs.declared.node.ParentNode.{ParentNode}
use Rattle.rstar.specs.ByOrder.{NearestNeighborByOrderIterator, search_by_order, GivesByOrder}
use Rattle.rstar.specs.Lists.{AreOrdered, AreFirst, AreFirstOf, IsNoFarther, IsNotLater, AreInOrder, AreNearestOf}
use Rattle.rstar.specs.Nodes.{elements, all_elements, elements_of, parents_of}
use Rattle.rstar_base.specs.Counts.{usize_max}
use Rattle.rstar.specs.Neighbors.{NearestNeighborIterator, NearestNeighborDistance2Iterator, Search, search_of, with_distances, HasBegun, GivesNeighbor, GivesElement, GivesWithDistance, IsGoingOn, elements_waiting}
use Rattle.rstar.proofs.trees.ByChildren.{elements-Parent}

-- ---- lists

module _ {T : Type 0} (before : T → T → Type 0) where
  order-push : (ts : List T) (t : T) → AreOrdered before ts → AllByRecursion (λ s. before s t) ts → AreOrdered before (ts ++ t ∷ [])
  order-push [] t order near = (tt, tt)
  order-push (s ∷ ts) t order near = (all-append _ ts (t ∷ []) order.0 (near.0, tt), order-push ts t order.1 near.1)

  -- none is given yet
  pub none-first : (all : List T) → AreFirst before all [] all
  none-first all = record { bag = IsPermutation-refl all; order = tt; least = tt }

  -- the first of those that are left is given too
  pub more-first : (all first left after : List T) (t : T) → AreFirst before all first left → IsPermutation left (t ∷ after) → AllByRecursion (before t) after → AreFirst before all (first ++ t ∷ []) after
  more-first all first left after t are bag least =
      let parted = all_map _ (λ s. before s t × AllByRecursion (before s) after) (λ s h. all_along _ left (t ∷ after) bag h) first are.least in
      record {
        bag = subst (IsPermutation all) (sym (append_assoc first (t ∷ []) after)) (IsPermutation-trans _ _ _ are.bag (IsPermutation-append_right first left (t ∷ after) bag));
        order = order-push first t are.order (all_map _ (λ s. before s t) (λ s h. h.0) first parted);
        least = all-append _ first (t ∷ []) (all_map _ (λ s. AllByRecursion (before s) after) (λ s h. h.1) first parted) (least, tt);
      }

  -- the first of all is given before the others
  before-first : (all mid first left : List T) (t : T) → IsPermutation all (t ∷ mid) → AllByRecursion (before t) mid → AreFirst before mid first left → AreFirst before all (t ∷ first) left
  before-first all mid first left t bag least are =
      let others = all_along (before t) mid (first ++ left) are.bag least in
      record {
        bag = IsPermutation-trans _ _ _ bag (IsPermutation-cons t mid (first ++ left) are.bag);
        order = (all_first (before t) first left others, are.order);
        least = (all_second (before t) first left others, are.least);
      }

-- what holds in one order holds in another that asks less
module _ {T : Type 0} (before after : T → T → Type 0) (weaker : (t u : T) → before t u → after t u) where
  pub ordered-by : (ts : List T) → AreOrdered before ts → AreOrdered after ts
  ordered-by [] h = tt
  ordered-by (t ∷ ts) h = (all_map (before t) (after t) (weaker t) ts h.0, ordered-by ts h.1)

  pub first-by : (all : List T) (most : ℕ) (first : List T) → AreFirstOf before all most first → AreFirstOf after all most first
  first-by all most first h =
      let least = all_map (λ t. AllByRecursion (before t) h.left) (λ t. AllByRecursion (after t) h.left) (λ t. all_map (before t) (after t) (weaker t) h.left) first h.first.least in
      let parted : AreFirst after all first h.left = assumption (ordered-by first h.first.order) in
      record { left = h.left; first = parted; few = h.few; enough = h.enough }

-- a search that has begun has all elements left
pub begun-left : {T E P : Type 0} (over : ParentNode T E) (at : P) (s : Search T E P) → HasBegun over at s → elements_waiting s ≡ elements_of over
begun-left over at s begun = ap all_elements begun.waiting ∙ append-nil (elements (Parent over)) ∙ elements-Parent over

-- ---- runs of calls of `next`

-- `try_collect` into a list
module _ {I A Z : Type 0} (steps : I → Option (Result A Z) → I → Type 0) where
  abbrev Extends : Vec A Global → List A → Vec A Global → Type 0
  Extends v ys w = (w.items ≡ v.items ++ ys) × (vec_len w ≡ vec_len v + length ys) × (vec_capacity v ≤ vec_capacity w)

  abbrev Collects : I → Vec A Global → Type 0
  Collects s v = TryCollects steps (λ x r. r ≡ x) (λ (ys : List A) (u : Vec A Global). (u.items ≡ ys) × (vec_len u ≡ length ys)) Extends s v

  -- each item was an `Ok`, and then came `None`
  each-ok : (xs : List (Result A Z)) (b v : Vec A Global) → FoldsTo (λ p x q. (y : A) × (Ok y ≡ x) × Extends p (y ∷ []) q) b xs v → (ys : List A) × (xs ≡ map Ok ys) × (v.items ≡ b.items ++ ys)
  each-ok [] b v folds = ([], refl, sym (ap (λ (u : Vec A Global). u.items) folds) ∙ sym (append-nil b.items))
  each-ok (x ∷ xs) b v folds =
      let rest = each-ok xs folds.0 v folds.2 in (
        folds.1.0 ∷ rest.0,
        ap (λ z. z ∷ xs) (sym folds.1.1) ∙ ap (λ zs. Ok folds.1.0 ∷ zs) rest.1,
        rest.2 ∙ ap (λ l. l ++ rest.0) folds.1.2.0 ∙ append_assoc b.items (folds.1.0 ∷ []) rest.0,
      )

  run-collected : (s : I) (v : Vec A Global) → Collects s v → (u : I) × YieldsThen steps s (map Ok v.items) None u
  run-collected s v all =
      let each = each-ok all.0 all.1 v all.4 in
      let same : all.0 ≡ map Ok v.items = each.1 ∙ ap (map Ok) (sym (each.2 ∙ ap (λ l. l ++ each.0) all.3.0)) in
      (all.2.0, subst (λ (l : List (Result A Z)). YieldsThen steps s l None all.2.0) same all.2.1)

  -- `take`, up to its end
  run-taken : (ys : List A) (s t : Take I) → Yields (take_steps steps) s (map Ok ys) t → Yields steps (take_source s) (map Ok ys) (take_source t) × (take_count t + length ys ≡ take_count s)
  run-taken [] s t run = let same = ap take_count run in (ap take_source run, omega (arith, same))
  run-taken (y ∷ ys) s t run =
      let rest = run-taken ys run.0 t run.2 in
      ((take_source run.0, run.1.0, rest.0), omega (arith, run.1.1, rest.1))

module _ {I T E P A Z : Type 0} (v : Boxes E) (d : Distances T) (axes : ℕ) (coord : P → ℕ → ℤ) (element : A → T) (shown : I → Search T E P)
    (steps : I → Option (Result A Z) → I → Type 0) (tell : (s : I) (r : Option (Result A Z)) (t : I) → steps s r t → GivesNeighbor v d axes coord element (shown s) r (shown t))
    (before : P → T → T → Type 0) (comes : (s : I) (y : A) (t : I) → steps s (Some (Ok y)) t → AllByRecursion (before (shown s).point (element y)) (elements_waiting (shown t))) where
  -- calls that each gave a neighbour: these are the first of what waited
  run-given : (ys : List A) (s t : I) → IsGoingOn (shown s) → Yields steps s (map Ok ys) t
      → ((shown t).root ≡ (shown s).root) × IsGoingOn (shown t) × AreFirst (before (shown s).point) (elements_waiting (shown s)) (map element ys) (elements_waiting (shown t))
  run-given [] s t going run = let same : s ≡ t = run in rw (← same) (refl, going, none-first _ _)
  run-given (y ∷ ys) s t going run =
      let told = tell s (Some (Ok y)) run.0 run.1 in
      let rest = run-given ys run.0 t told.goes_on run.2 in
      (rest.0 ∙ told.root, rest.1, before-first _ _ _ _ _ (element y) told.gives.bag (comes s y run.0 run.1) (rw told.point at rest.2))

  -- the same from a search that has begun: these are the first of all
  module _ (over : ParentNode T E) (at : P) (it : I) (begun : HasBegun over at (shown it)) where
    given-first : (ys : List A) (t : I) → Yields steps it (map Ok ys) t → AreFirst (before at) (elements_of over) (map element ys) (elements_waiting (shown t))
    given-first ys t run = rw (begun.point, begun-left over at (shown it) begun) at (run-given ys it t begun.going_on run).2

    -- up to the end: these are all, and each parent was opened
    given-end : (ys : List A) (t u : I) → Yields steps it (map Ok ys) t → steps t None u
        → IsPermutation (elements_of over) (map element ys) × AreOrdered (before at) (map element ys) × ((shown u).opened ≡ min (parents_of over) usize_max)
    given-end ys t u run last =
        let given = run-given ys it t begun.going_on run in
        let first = given-first ys t run in
        let told = tell t None u last in
        let opened = rw (told.over given.1, given.0, begun.root) at (told.opened (told.goes_on_at_end given.1)) in
        ((rw (told.none given.1, append-nil (map element ys)) at first.bag), first.order, omega (arith, opened))

    given-taken : (most : ℕ) (ys : List A) (s t u : Take I) → take_source s ≡ it → take_count s ≡ most → Yields (take_steps steps) s (map Ok ys) t → take_steps steps t None u
        → AreFirstOf (before at) (elements_of over) most (map element ys)
    given-taken most ys s t u source is taken last =
        let all = run-taken steps ys s t taken in
        let run = subst (λ i. Yields steps i (map Ok ys) (take_source t)) source all.0 in
        let count = all.1 in
        let long = length-map ys element in
        record {
          left = elements_waiting (shown (take_source t));
          first = given-first ys (take_source t) run;
          few = omega (arith, count, long, is);
          enough = λ less. (tell (take_source t) None (take_source u) (last (omega (arith, count, long, is, less)))).none (run-given ys it (take_source t) begun.going_on run).1;
        }

    given-collected : (all : Vec A Global) → Collects steps it all → IsPermutation (elements_of over) (map element all.items) × AreOrdered (before at) (map element all.items)
    given-collected all collected =
        let run = run-collected steps it all collected in
        let end = given-end all.items run.1.0 run.0 run.1.1 run.1.2 in
        (end.0, end.1)

-- ---- the same of the iterator of a tree, or below any root

module _ {T E P S : Type 0} (v : Boxes E) (o : Objects T E) (d : Distances T) (axes : ℕ) (coord : P → ℕ → ℤ) (compare : S → S → Ordering) (value : S → ℤ)
    (over : ParentNode T E) (at : P) (it : NearestNeighborIterator T E P S) (begun : HasBegun over at (search_of (with_distances it))) where
  abbrev shows : NearestNeighborIterator T E P S → Search T E P
  shows i = search_of (with_distances i)

  abbrev gives : NearestNeighborIterator T E P S → Option (Result (Bor T) AllocError) → NearestNeighborIterator T E P S → Type 0
  gives = GivesElement v o d axes coord compare value

  abbrev near : P → T → T → Type 0
  near p = IsNoFarther (λ t. d.distance_2 t (table axes (coord p)))

  -- at the end of a loop
  pub neighbors_end : (ys : List (Bor T)) (t u : NearestNeighborIterator T E P S) → Yields gives it (map Ok ys) t → gives t None u
      → IsPermutation (elements_of over) (map (λ y. y.now) ys) × AreInOrder (λ t. d.distance_2 t (table axes (coord at))) (map (λ y. y.now) ys)
      × ((search_of (with_distances u)).opened ≡ min (parents_of over) usize_max)
  neighbors_end = given-end v d axes coord (λ (y : Bor T). y.now) shows gives (λ s r t h. h.0) near (λ s y t h. h.0.gives.least) over at it begun

  -- at the end of a loop over `take`
  pub neighbors_taken : (most : ℕ) (ys : List (Bor T)) (s t u : Take (NearestNeighborIterator T E P S)) → take_source s ≡ it → take_count s ≡ most → Yields (take_steps gives) s (map Ok ys) t → take_steps gives t None u
      → AreNearestOf (λ t. d.distance_2 t (table axes (coord at))) (elements_of over) most (map (λ y. y.now) ys)
  neighbors_taken = given-taken v d axes coord (λ (y : Bor T). y.now) shows gives (λ s r t h. h.0) near (λ s y t h. h.0.gives.least) over at it begun

  -- what `try_collect` has taken into a list
  pub neighbors_collected : (all : Vec (Bor T) Global) → Collects gives it all → IsPermutation (elements_of over) (map (λ y. y.now) all.items) × AreInOrder (λ t. d.distance_2 t (table axes (coord at))) (map (λ y. y.now) all.items)
  neighbors_collected = given-collected v d axes coord (λ (y : Bor T). y.now) shows gives (λ s r t h. h.0) near (λ s y t h. h.0.gives.least) over at it begun

-- ---- each is given with its distance

module _ {I T E P S Z : Type 0} (v : Boxes E) (d : Distances T) (axes : ℕ) (coord : P → ℕ → ℤ) (value : S → ℤ) (shown : I → Search T E P)
    (steps : I → Option (Result (Bor T × S) Z) → I → Type 0) (tell : (s : I) (r : Option (Result (Bor T × S) Z)) (t : I) → steps s r t → GivesNeighbor v d axes coord (λ x. x.0.now) (shown s) r (shown t))
    (before : P → T → T → Type 0) (comes : (s : I) (y : Bor T × S) (t : I) → steps s (Some (Ok y)) t → AllByRecursion (before (shown s).point y.0.now) (elements_waiting (shown t)))
    (lies : (s : I) (y : Bor T × S) (t : I) → steps s (Some (Ok y)) t → value y.1 ≡ pos (d.distance_2 y.0.now (table axes (coord (shown s).point)))) where
  abbrev AreTold : P → List (Bor T × S) → Type 0
  AreTold p ys = AllByRecursion (λ y. value y.1 ≡ pos (d.distance_2 y.0.now (table axes (coord p)))) ys

  each-told : (ys : List (Bor T × S)) (s t : I) → Yields steps s (map Ok ys) t → AreTold (shown s).point ys
  each-told [] s t run = tt
  each-told (y ∷ ys) s t run = (lies s y run.0 run.1, subst (λ p. AreTold p ys) (tell s (Some (Ok y)) run.0 run.1).point (each-told ys run.0 t run.2))

  told-end : (over : ParentNode T E) (at : P) (it : I) (begun : HasBegun over at (shown it)) (ys : List (Bor T × S)) (t u : I) → Yields steps it (map Ok ys) t → steps t None u
      → IsPermutation (elements_of over) (map (λ y. y.0.now) ys) × AreOrdered (before at) (map (λ y. y.0.now) ys) × AreTold at ys × ((shown u).opened ≡ min (parents_of over) usize_max)
  told-end over at it begun ys t u run last =
      let end = given-end v d axes coord (λ (y : Bor T × S). y.0.now) shown steps tell before comes over at it begun ys t u run last in
      (end.0, end.1, subst (λ p. AreTold p ys) begun.point (each-told ys it t run), end.2)

-- ---- by the iterator that gives each element with its distance

module _ {T E P S : Type 0} (v : Boxes E) (o : Objects T E) (d : Distances T) (axes : ℕ) (coord : P → ℕ → ℤ) (compare : S → S → Ordering) (value : S → ℤ)
    (over : ParentNode T E) (at : P) (it : NearestNeighborDistance2Iterator T E P S) (begun : HasBegun over at (search_of it)) where
  abbrev gives_distance : NearestNeighborDistance2Iterator T E P S → Option (Result (Bor T × S) AllocError) → NearestNeighborDistance2Iterator T E P S → Type 0
  gives_distance = GivesWithDistance v o d axes coord compare value

  -- at the end of a loop
  pub distances_end : (ys : List (Bor T × S)) (t u : NearestNeighborDistance2Iterator T E P S) → Yields gives_distance it (map Ok ys) t → gives_distance t None u
      → IsPermutation (elements_of over) (map (λ y. y.0.now) ys) × AreInOrder (λ t. d.distance_2 t (table axes (coord at))) (map (λ y. y.0.now) ys)
      × AllByRecursion (λ y. value y.1 ≡ pos (d.distance_2 y.0.now (table axes (coord at)))) ys × ((search_of u).opened ≡ min (parents_of over) usize_max)
  distances_end =
      told-end v d axes coord value (λ (i : NearestNeighborDistance2Iterator T E P S). search_of i) gives_distance (λ s r t h. h.0) (λ p. IsNoFarther (λ t. d.distance_2 t (table axes (coord p))))
      (λ s y t h. h.0.gives.least) (λ s y t h. h.1) over at it begun

-- ---- by the iterator in the stated order

module _ {T E P S : Type 0} (v : Boxes E) (o : Objects T E) (d : Distances T) (order : T → T → Ordering) (axes : ℕ) (coord : P → ℕ → ℤ) (compare : S → S → Ordering) (value : S → ℤ)
    (over : ParentNode T E) (at : P) (it : NearestNeighborByOrderIterator T E P S) (begun : HasBegun over at (search_by_order it)) where
  abbrev gives_by_order : NearestNeighborByOrderIterator T E P S → Option (Result (Bor T × S) AllocError) → NearestNeighborByOrderIterator T E P S → Type 0
  gives_by_order = GivesByOrder v o d order axes coord compare value

  abbrev ordered : NearestNeighborByOrderIterator T E P S → Search T E P
  ordered i = search_by_order i

  abbrev stated : P → T → T → Type 0
  stated p = IsNotLater (λ t. d.distance_2 t (table axes (coord p))) order

  comes-first : (s : NearestNeighborByOrderIterator T E P S) (y : Bor T × S) (t : NearestNeighborByOrderIterator T E P S) → gives_by_order s (Some (Ok y)) t → AllByRecursion (stated (search_by_order s).point y.0.now) (elements_waiting (search_by_order t))
  comes-first s y t h = subst (λ p. AllByRecursion (stated p y.0.now) (elements_waiting (search_by_order t))) h.0.point h.1.first

  -- at the end of a loop
  pub ordered_end : (ys : List (Bor T × S)) (t u : NearestNeighborByOrderIterator T E P S) → Yields gives_by_order it (map Ok ys) t → gives_by_order t None u
      → IsPermutation (elements_of over) (map (λ y. y.0.now) ys) × AreOrdered (stated at) (map (λ y. y.0.now) ys)
      × AllByRecursion (λ y. value y.1 ≡ pos (d.distance_2 y.0.now (table axes (coord at)))) ys × ((search_by_order u).opened ≡ min (parents_of over) usize_max)
  ordered_end = told-end v d axes coord value ordered gives_by_order (λ s r t h. h.0) stated comes-first (λ s y t h. h.2) over at it begun

  -- at the end of a loop over `take`
  pub ordered_taken : (most : ℕ) (ys : List (Bor T × S)) (s t u : Take (NearestNeighborByOrderIterator T E P S)) → take_source s ≡ it → take_count s ≡ most → Yields (take_steps gives_by_order) s (map Ok ys) t → take_steps gives_by_order t None u
      → AreFirstOf (stated at) (elements_of over) most (map (λ y. y.0.now) ys)
  ordered_taken = given-taken v d axes coord (λ (y : Bor T × S). y.0.now) ordered gives_by_order (λ s r t h. h.0) stated comes-first over at it begun

  -- what `try_collect` has taken into a list
  pub ordered_collected : (all : Vec (Bor T × S) Global) → Collects gives_by_order it all
      → IsPermutation (elements_of over) (map (λ y. y.0.now) all.items) × AreOrdered (stated at) (map (λ y. y.0.now) all.items)
  ordered_collected = given-collected v d axes coord (λ (y : Bor T × S). y.0.now) ordered gives_by_order (λ s r t h. h.0) stated comes-first over at it begun
