-- What a turn of a search keeps, over the items of its heap, and the opening of its root.
use Rattle.std.proofs.Common.{◌≡◌, ℕ, ◌+◌, ◌<◌, ◌≤◌, min, ℤ, pos, false, List, [], ◌∷◌, ◌++◌, length, ap, ◌∙◌, subst, All, arith, Option, None, Some, Ok, Err}
use Rattle.std.specs.Borrow.{Bor}
use Rattle.std.specs.List.{AllByRecursion}
use Rattle.std.specs.List.Sorted.{IsPermutation}
use Rattle.std.specs.Ordering.{is_lt, int_cmp}
use Rattle.std.specs.declared.alloc.AllocError.{AllocError}
use Rattle.std.specs.declared.cmp.Ordering.{Ordering}
use Rattle.std.proofs.lemmas.List.Sorted.{IsPermutation-refl, IsPermutation-trans, IsPermutation-map, length_permutation, sum_by_popped}
use Rattle.std.proofs.lemmas.List.Elements.{recursion_from_All}
use Rattle.rstar_base.specs.Envelopes.{Boxes, EnvelopeLaws}
use Rattle.rstar_base.specs.Elements.{Objects, ObjectLaws, Distances, DistanceLaws}
use Rattle.rstar_base.specs.SmallHeaps.{Held, items_of, IsOrdered}
use Rattle.rstar_base.proofs.Lists.{all_along, all_map}
use Rattle.rstar.specs.declared.algorithm.nearest_neighbor.search.Stage.TheVariants.{Running, Ended}
use Rattle.rstar.specs.declared.node.RTreeNode.{RTreeNode, Leaf, Parent}
use Rattle.rstar.specs.declared.node.ParentNode.{ParentNode}
use Rattle.rstar.specs.Nodes.{all_elements, all_parents, parents, children_of, IsWhole}
use Rattle.rstar_base.specs.Counts.{usize_max}
use Rattle.rstar.specs.Neighbors.{IsNeighbor, MayWantMemory}
use Rattle.rstar.specs.inside.Searches.{Item, NodeSearch, nearest_on_top, waiting_of, ComesFirst, IsReady, IsUnrefused, waiting_nodes, distance_of, AreWholeNodes, AreWaiting, IsRunning}
use Rattle.rstar.specs.inside.SearchSteps.{GivesNext, IsUnderWay}
use Rattle.rstar.proofs.trees.ByChildren.{node_distance-Leaf, parents-Parent}
use Rattle.rstar.proofs.searching.Nearness.{IsMeasured, IsPart, no-more-nodes, part-Parent}
use Rattle.rstar.proofs.searching.Searches.{first-nodes, parts-parent, fewer-parents, same-elements, counted-parent, far-parent, bag-given, least-given, far-given, counted-leaf, far-rest, fresh-counted, fresh-far}

-- the laws of a function's element type, at a point
pub measured-by : {T E : Type 0} {IsPoint : List ℤ → Type 0} {v : Boxes E} {o : Objects T E} {d : Distances T} {p : List ℤ} → EnvelopeLaws IsPoint v → ObjectLaws v o → DistanceLaws IsPoint v o d → IsPoint p → IsMeasured IsPoint v o d p
measured-by laws ok near point = record { laws = laws; ok = ok; near = near; point = point }

-- scalars compare as the numbers that they mean
pub order_of : {S : Type 0} (value : S → ℤ) (compare : S → S → Ordering) (partial : S → S → Option Ordering) → ((a b : S) → partial a b ≡ Some (compare a b))
    → ((a b : S) → partial a b ≡ Some (int_cmp (value a) (value b))) → (a b : S) → compare a b ≡ int_cmp (value a) (value b)
order_of value compare partial matches ordered a b = cc (matches a b, ordered a b)

-- a turn of a search that is on its way: the item that its heap gives
module _ {T E : Type 0} {IsPoint : List ℤ → Type 0} {v : Boxes E} {o : Objects T E} {d : Distances T} {p : List ℤ} (law : IsMeasured IsPoint v o d p) {S O : Type 0}
    {value : S → ℤ} {compare : S → S → Ordering} {ties : RTreeNode T E → RTreeNode T E → Ordering} (order : (a b : S) → compare a b ≡ int_cmp (value a) (value b)) {root : ParentNode T E}
    {ws : Held (Item T E S O)} (us : Held (Item T E S O)) {w : Item T E S O} {opened : ℕ} (running : IsRunning v d p compare ties value o root ws opened)
    (ordered : IsOrdered (nearest_on_top compare ties) us)
    (popped : IsPermutation (items_of ws) (w ∷ items_of us)) (greatest : All (λ (y : Item T E S O). is_lt (nearest_on_top compare ties w y) ≡ false) (items_of us)) where
  abbrev near : RTreeNode T E → ℕ
  near = distance_of v d p

  abbrev old : List (RTreeNode T E)
  old = waiting_nodes (items_of ws)

  abbrev rest : List (RTreeNode T E)
  rest = waiting_nodes (items_of us)

  all-at : AllByRecursion (λ (u : Item T E S O). value u.distance ≡ pos (near u.node.now)) (w ∷ items_of us)
  all-at = all_along (λ (u : Item T E S O). value u.distance ≡ pos (near u.node.now)) (items_of ws) (w ∷ items_of us) popped running.waiting.at

  pub rest-waiting : AreWaiting v d p compare ties value us
  rest-waiting = record { ordered = ordered; at = all-at.1 }

  nodes : IsPermutation old (w.node.now ∷ rest)
  nodes = IsPermutation-map (λ (u : Item T E S O). u.node.now) (items_of ws) (w ∷ items_of us) popped

  all-parts : AreWholeNodes v o (w.node.now ∷ rest)
  all-parts = all_along (IsPart law) old (w.node.now ∷ rest) nodes running.parts

  -- the node is this one: no other comes before it
  module _ (n : RTreeNode T E) (is : w.node.now ≡ n) where
    nodes-as : IsPermutation old (n ∷ rest)
    nodes-as = subst (λ m. IsPermutation old (m ∷ rest)) is nodes

    first-as : AllByRecursion (λ c. (near n ≤ near c) × (near c ≡ near n → is_lt (ties c n) ≡ false)) rest
    first-as = subst (λ (m : RTreeNode T E). AllByRecursion (λ c. (near m ≤ near c) × (near c ≡ near m → is_lt (ties c m) ≡ false)) rest) is
        (first-nodes near value compare ties order w (items_of us) all-at.0 all-at.1 (recursion_from_All _ (items_of us) greatest))

    least-as : AllByRecursion (λ c. near n ≤ near c) rest
    least-as = all_map (λ c. (near n ≤ near c) × (near c ≡ near n → is_lt (ties c n) ≡ false)) (λ c. near n ≤ near c) (λ c both. both.0) rest first-as

  -- the item was a leaf
  module _ (t : T) (is : w.node.now ≡ Leaf t) where
    own : near (Leaf t) ≡ d.distance_2 t p
    own = node_distance-Leaf T E (λ e. v.distance_2 e p) (λ t. d.distance_2 t p) t

    pub leaf-at : value w.distance ≡ pos (d.distance_2 t p)
    leaf-at = all-at.0 ∙ ap (λ (n : RTreeNode T E). pos (near n)) is ∙ ap pos own

    pub leaf-running : IsRunning v d p compare ties value o root us opened
    leaf-running = record {
      waiting = rest-waiting;
      parts = all-parts.1;
      counted = counted-leaf law t (nodes-as (Leaf t) is) running.counted;
      still_far = far-rest law t (nodes-as (Leaf t) is) (least-as (Leaf t) is) root running.still_far;
    }

    pub leaf-gives : {before : List (RTreeNode T E)} → IsPermutation (all_elements before) (all_elements old) → IsNeighbor v d p root before rest t
    leaf-gives same = record {
      bag = IsPermutation-trans _ _ _ same (bag-given law t (nodes-as (Leaf t) is));
      least = least-given law t (nodes-as (Leaf t) is) (least-as (Leaf t) is) all-parts.1;
      still_far = far-given law t (nodes-as (Leaf t) is) root running.still_far;
    }

    pub leaf-first : ComesFirst v d p ties rest t
    leaf-first = subst (λ m. AllByRecursion (λ c. (m ≤ near c) × (near c ≡ m → is_lt (ties c (Leaf t)) ≡ false)) rest) own (first-as (Leaf t) is)

  -- the item was a parent
  module _ (q : ParentNode T E) (is : w.node.now ≡ Parent q) where
    pub parent-waits : 0 < all_parents old
    parent-waits = omega (arith, sum_by_popped parents (Parent q) old rest (nodes-as (Parent q) is), parents-Parent q)

    -- where its children make many nodes wait, many elements waited
    pub parent-crowds : 32 < length (rest ++ children_of q) → MayWantMemory old
    parent-crowds many =
        let i = part-Parent law q (subst (IsPart law) is all-parts.0) in
        let put = IsPermutation-refl (rest ++ children_of q) in
        let whole = parts-parent law q (nodes-as (Parent q) is) put i.0 i.2 all-parts.1 in
        (parent-waits, omega (arith, many, no-more-nodes law (rest ++ children_of q) whole, length_permutation _ _ (same-elements law q (nodes-as (Parent q) is) put)))

    -- its children came into the heap
    module _ (vs : Held (Item T E S O)) (put : IsPermutation (rest ++ children_of q) (waiting_nodes (items_of vs))) where
      pub parent-fewer : 1 + all_parents (waiting_nodes (items_of vs)) ≡ all_parents old
      parent-fewer = fewer-parents law q (nodes-as (Parent q) is) put

      pub parent-under-way : {before : List (RTreeNode T E)} → IsPermutation (all_elements before) (all_elements old) → all_parents old ≤ all_parents before → AreWaiting v d p compare ties value vs → {more : ℕ} → more ≡ min (opened + 1) usize_max
          → IsUnderWay v d p compare ties value o root before vs more
      parent-under-way same few waiting is_more =
          let i = part-Parent law q (subst (IsPart law) is all-parts.0) in
          record {
            running = record {
              waiting = waiting;
              parts = parts-parent law q (nodes-as (Parent q) is) put i.0 i.2 all-parts.1;
              counted = counted-parent law q (nodes-as (Parent q) is) put is_more running.counted;
              still_far = far-parent law q (nodes-as (Parent q) is) put i.0 i.2 root i.1 (least-as (Parent q) is) running.still_far;
            };
            bag = IsPermutation-trans _ _ _ same (same-elements law q (nodes-as (Parent q) is) put);
            fewer = omega (arith, parent-fewer, few);
          }

-- an element was given
pub gives-one : {T E S O : Type 0} {v : Boxes E} {d : Distances T} {p : List ℤ} {value : S → ℤ} {compare : S → S → Ordering} {ties : RTreeNode T E → RTreeNode T E → Ordering} {o : Objects T E} {old new : NodeSearch T E S O} {x : Bor T × S}
    → new.root ≡ old.root → IsReady v d p compare ties value o new → IsNeighbor v d p old.root.now (waiting_of old) (waiting_of new) x.0.now → value x.1 ≡ pos (d.distance_2 x.0.now p) → ComesFirst v d p ties (waiting_of new) x.0.now
    → IsUnrefused old.stage → new.stage ≡ Running → GivesNext v d p compare ties value o old (Some (Ok x)) new
gives-one root ready gives distance first going on =
    record { root = root; ready = ready; gives = gives; distance = distance; first = first; none = tt; over = tt; stays = tt; refused = tt; goes_on = on; ends = tt; once = going; ended = λ over. absurd (over going) }

-- none was given
pub ends-none : {T E S O : Type 0} {v : Boxes E} {d : Distances T} {p : List ℤ} {value : S → ℤ} {compare : S → S → Ordering} {ties : RTreeNode T E → RTreeNode T E → Ordering} {o : Objects T E} {old new : NodeSearch T E S O} → new.root ≡ old.root → IsReady v d p compare ties value o new
    → (IsUnrefused old.stage → (all_elements (waiting_of old) ≡ []) × (waiting_of new ≡ []) × (new.stage ≡ Running)) → ((IsUnrefused old.stage → ⊥) → IsUnrefused new.stage → ⊥) → GivesNext v d p compare ties value o old None new
ends-none root ready over ended =
    record { root = root; ready = ready; gives = tt; distance = tt; first = tt; none = λ on. (over on).0; over = λ on. (over on).1; stays = λ on. (over on).2; refused = tt; goes_on = tt; ends = tt; once = tt; ended = ended }

-- a refusal ends a search
pub ends-refused : {T E S O : Type 0} {v : Boxes E} {d : Distances T} {p : List ℤ} {value : S → ℤ} {compare : S → S → Ordering} {ties : RTreeNode T E → RTreeNode T E → Ordering} {o : Objects T E} {old new : NodeSearch T E S O} {z : AllocError}
    → new.root ≡ old.root → MayWantMemory (waiting_of old) → IsUnrefused old.stage → new.stage ≡ Ended → GivesNext v d p compare ties value o old (Some (Err z)) new
ends-refused root waits going is =
    record { root = root; ready = rw is tt; gives = tt; distance = tt; first = tt; none = tt; over = tt; stays = tt; refused = waits; goes_on = tt; ends = is; once = going; ended = λ over. absurd (over going) }

-- a heap of the same items
pub same-running : {T E S O : Type 0} {v : Boxes E} {d : Distances T} {p : List ℤ} {value : S → ℤ} {compare : S → S → Ordering} {ties : RTreeNode T E → RTreeNode T E → Ordering} {o : Objects T E} {root : ParentNode T E}
    {ws us : Held (Item T E S O)} {opened : ℕ} → items_of ws ≡ items_of us → IsOrdered (nearest_on_top compare ties) us
    → IsRunning v d p compare ties value o root ws opened → IsRunning v d p compare ties value o root us opened
same-running e ordered running = record { waiting = record { ordered = ordered; at = rw e at running.waiting.at }; parts = rw e at running.parts; counted = rw e at running.counted; still_far = rw e at running.still_far }

-- the root is opened: its children came into an empty heap
module _ {T E : Type 0} {IsPoint : List ℤ → Type 0} {v : Boxes E} {o : Objects T E} {d : Distances T} {p : List ℤ} (law : IsMeasured IsPoint v o d p) {S O : Type 0} (root : ParentNode T E)
    (us : Held (Item T E S O)) (put : IsPermutation (children_of root) (waiting_nodes (items_of us))) where
  alone : IsPermutation (Parent root ∷ []) (Parent root ∷ [])
  alone = IsPermutation-refl (Parent root ∷ [])

  pub root-under-way : {value : S → ℤ} {compare : S → S → Ordering} {ties : RTreeNode T E → RTreeNode T E → Ordering} → IsWhole v o root → {opened : ℕ} → opened ≡ 1 → AreWaiting v d p compare ties value us → IsUnderWay v d p compare ties value o root (Parent root ∷ []) us opened
  root-under-way whole is waiting = let less = fewer-parents law root alone put in record {
    running = record {
      waiting = waiting;
      parts = parts-parent law root alone put whole.height whole.below tt;
      counted = counted-parent law root alone put (omega arith) (fresh-counted root);
      still_far = far-parent law root alone put whole.height whole.below root whole.tight tt (fresh-far v d p root);
    };
    bag = same-elements law root alone put;
    fewer = omega arith;
  }
