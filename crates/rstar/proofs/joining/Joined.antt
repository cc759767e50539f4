-- What the walk of a join gives of whole nodes, and what it opens: the join of their elements, reordered, and all that Meet counts.
use Rattle.std.proofs.Common.{◌≡◌, ◌≢◌, ℕ, ℤ, zero, suc, ◌+◌, ◌≤◌, List, [], ◌∷◌, map, refl, ap, ◌∙◌, sym, subst, arith, Bool, true, false, if◌then◌else◌, flat_map, sum_by, inl, inr, ◌⊎◌, max, min}
use Rattle.std.specs.List.{AllByRecursion}
use Rattle.std.specs.Prelude.{Option, Some, None, IfNone}
use Rattle.std.specs.Iterator.{YieldsFirstBy}
use Rattle.std.specs.Borrow.{Bor}
use Rattle.std.specs.List.Sorted.{IsPermutation}
use Rattle.std.proofs.lemmas.Bool.{true≢false}
use Rattle.std.proofs.lemmas.List.Sums.{sum_by-cons}
use Rattle.rstar_base.specs.Envelopes.{Boxes, EnvelopeLaws}
use Rattle.rstar_base.specs.Elements.{Objects, ObjectLaws}
use Rattle.rstar_base.specs.Hulls.{hull}
use Rattle.rstar_base.specs.Counts.{usize_max}
use Rattle.rstar_base.proofs.Along.{IsPermutation-same}
use Rattle.rstar_base.proofs.Lists.{all_map, all_both}
use Rattle.rstar.specs.declared.node.RTreeNode.{RTreeNode}
use Rattle.rstar.specs.declared.node.ParentNode.{ParentNode}
use Rattle.rstar.specs.declared.iterators.joins.IntersectionIterator.{IntersectionIterator}
use Rattle.rstar.specs.Nodes.{elements, all_elements, elements_of, envelope_of, children_of, node_box, IsTree, IsElement, IsInner, AreWhole, IsWhole}
use Rattle.rstar.specs.Lists.{product}
use Rattle.rstar.specs.Heights.{levels_below}
use Rattle.rstar.specs.Meets.{opened_to, meet, meet_of_roots, meet_of_shown, pairs_at, opens_at, all_pairs, all_opens, pairs_from_roots}
use Rattle.rstar.specs.Shown.{parent, row_of, shown}
use Rattle.rstar.specs.inside.PairWalks.{AreJoinable, CountsPairs, GoesOn, IsNextPair}
use Rattle.rstar.specs.Joins.{SeenLaws, meets_by, join, left_root, right_root, pairs_opened, meet_by, pairs_to_come, IsJoining, GivesPair}
use Rattle.rstar.proofs.trees.ByChildren.{is_leaf, elements-Leaf}
use Rattle.rstar.proofs.trees.Heights.{at_levels}
use Rattle.rstar.proofs.selecting.Traversals.{all-level}
use Rattle.rstar.proofs.searching.Nearness.{box-value}
use Rattle.rstar.proofs.trees.Trees.{sound, all_sound, values-of, box_is_hull, merged_is_hull}
use Rattle.rstar.proofs.joining.PairsByChildren.{the_pair, each-product, product-none, whole-opened, all_meets, meet-roots, does_meet, AreLeaves, IsOpened, Kind, kinds, leaves}
use Rattle.rstar.proofs.joining.PairWalks.{idle-pairs, idle-count, at_most}
use Rattle.rstar.proofs.joining.MeetingNodes.{IsJoined, all-joined, apart}
use Rattle.rstar.proofs.lists.Items.{sum_by-same}
use Rattle.rstar.proofs.searching.Ties.{filter_nothing}

-- ---- sums

sums-zero : {A : Type 0} (f : A → ℕ) (xs : List A) → AllByRecursion (λ x. f x ≡ 0) xs → sum_by f xs ≡ 0
sums-zero f [] all = refl
sums-zero f (x ∷ xs) all = omega (arith, sum_by-cons f x xs, all.0, sums-zero f xs all.1)

-- ---- whole nodes

module _ {T E U F : Type 0} {IsPoint IsPoint' : List ℤ → Type 0} {v : Boxes E} {w : Boxes F} {o : Objects T E} {o' : Objects U F} {seen : F → E}
    (laws : EnvelopeLaws IsPoint v) (laws' : EnvelopeLaws IsPoint' w) (same : SeenLaws w v seen) (ok : ObjectLaws v o) (ok' : ObjectLaws w o') where
  abbrev meets : E → F → Bool
  meets = meets_by v seen

  abbrev IsLeft : ℕ → RTreeNode T E → Type 0
  IsLeft = IsTree (IsInner v o) (IsElement v o)

  abbrev IsOther : ℕ → RTreeNode U F → Type 0
  IsOther = IsTree (IsInner w o') (IsElement w o')

  -- where the merges of elements do not meet, they have no join
  none-joined : (ts : List T) (us : List U) → AllByRecursion (IsElement v o) ts → AllByRecursion (IsElement w o') us → meets (hull v o.box_of ts) (hull w o'.box_of us) ≡ false
      → join meets o.box_of o'.box_of ts us ≡ []
  none-joined ts us hl hr missed = filter_nothing _ _ (apart laws laws' same o.box_of o'.box_of ts us (values-of laws ok ts hl) (values-of laws' ok' us hr) missed)

  -- what the walk gives of a pair of nodes is the join of their elements, it opens what Meet counts, and Meet counts nothing where the two do not meet
  pub record IsRight (l : RTreeNode T E) (r : RTreeNode U F) : Type 0 where
    pub joined : IsJoined meets o.box_of o'.box_of l r
    pub counted : meet meets o.box_of o'.box_of l r ≡ opens_at meets o.box_of o'.box_of l r
    pub pruned : does_meet meets o.box_of o'.box_of l r ≡ false → meet meets o.box_of o'.box_of l r ≡ 0

  abbrev AreRight : List (RTreeNode T E) → List (RTreeNode U F) → Type 0
  AreRight ls rs = AllByRecursion (λ (p : RTreeNode T E × RTreeNode U F). IsRight p.0 p.1) (product ls rs)

  pairs-joined : (ls : List (RTreeNode T E)) (rs : List (RTreeNode U F)) → AreRight ls rs → IsPermutation (all_pairs meets o.box_of o'.box_of ls rs) (join meets o.box_of o'.box_of (all_elements ls) (all_elements rs))
  pairs-joined ls rs all = all-joined meets o.box_of o'.box_of ls rs (all_map _ _ (λ p q. q.joined) (product ls rs) all)

  -- what Meet counts of all pairs
  all-counted : (ls : List (RTreeNode T E)) (rs : List (RTreeNode U F)) → AreRight ls rs → all_meets meets o.box_of o'.box_of ls rs ≡ all_opens meets o.box_of o'.box_of ls rs
  all-counted ls rs all =
      sum_by-same (λ (p : RTreeNode T E × RTreeNode U F). meet meets o.box_of o'.box_of p.0 p.1) (λ p. opens_at meets o.box_of o'.box_of p.0 p.1) (product ls rs)
      (all_map _ _ (λ p q. q.counted) (product ls rs) all)

  -- of nodes whose merges do not meet, none do
  all-pruned : (h k : ℕ) (ls : List (RTreeNode T E)) (rs : List (RTreeNode U F)) → AreWhole v o h ls → AreWhole w o' k rs → AreRight ls rs
      → meets (hull v (node_box o.box_of) ls) (hull w (node_box o'.box_of) rs) ≡ false → all_meets meets o.box_of o'.box_of ls rs ≡ 0
  all-pruned h k ls rs hl hr all missed =
      sums-zero (λ (p : RTreeNode T E × RTreeNode U F). meet meets o.box_of o'.box_of p.0 p.1) (product ls rs) (all_both _ _ _ (λ p q n. q.pruned n) (product ls rs) all
      (apart laws laws' same (node_box o.box_of) (node_box o'.box_of) ls rs (all_map _ _ (box-value laws ok h) ls hl) (all_map _ _ (box-value laws' ok' k) rs hr) missed))

  leaves-right : (t : T) (u : U) (l : RTreeNode T E) (r : RTreeNode U F) → AreLeaves meets o.box_of o'.box_of t u l r → IsRight l r
  leaves-right t u l r two =
      let ts : elements l ≡ t ∷ [] = ap elements two.left ∙ elements-Leaf T E t in
      let us : elements r ≡ u ∷ [] = ap elements two.right ∙ elements-Leaf U F u in
      record {
        joined = IsPermutation-same _ _ (two.pairs ∙ sym (λ i. join meets o.box_of o'.box_of (ts i) (us i)));
        counted = two.counts ∙ sym two.opens;
        pruned = λ missed. two.counts;
      }

  by-meeting : (l : RTreeNode T E) (r : RTreeNode U F) (b : Bool) → does_meet meets o.box_of o'.box_of l r ≡ b → IsOpened meets o.box_of o'.box_of b (opened_to l) (opened_to r) l r
      → all_elements (opened_to l) ≡ elements l → all_elements (opened_to r) ≡ elements r → AreRight (opened_to l) (opened_to r)
      → (does_meet meets o.box_of o'.box_of l r ≡ false → (all_meets meets o.box_of o'.box_of (opened_to l) (opened_to r) ≡ 0) × (join meets o.box_of o'.box_of (elements l) (elements r) ≡ []))
      → IsRight l r
  by-meeting l r true is gone is_l is_r all none = record {
    joined = rw (gone.pairs, ← is_l, ← is_r) (pairs-joined (opened_to l) (opened_to r) all);
    counted = omega (arith, gone.counts, gone.opens, all-counted (opened_to l) (opened_to r) all);
    pruned = λ missed. absurd (true≢false (sym is ∙ missed));
  }
  by-meeting l r false is gone is_l is_r all none = record {
    joined = IsPermutation-same _ _ (gone.pairs ∙ sym (none is).1);
    counted = omega (arith, gone.counts, gone.opens, (none is).0);
    pruned = λ missed. omega (arith, gone.counts, (none is).0);
  }

  -- nodes no higher than this
  abbrev AllRight : ℕ → Type 0
  AllRight m = (h k : ℕ) (l : RTreeNode T E) (r : RTreeNode U F) → h ≤ m → k ≤ m → IsLeft h l → IsOther k r → IsRight l r

  deeper : (m : ℕ) → AllRight m → (h k : ℕ) (l : RTreeNode T E) (r : RTreeNode U F) → h ≤ suc m → k ≤ suc m → IsLeft h l → IsOther k r
      → IsOpened meets o.box_of o'.box_of (does_meet meets o.box_of o'.box_of l r) (opened_to l) (opened_to r) l r → IsRight l r
  deeper m below h k l r lh lk hl hr gone =
      let a = whole-opened (IsInner v o) (IsElement v o) m h l (omega (arith, lh)) hl in
      let b = whole-opened (IsInner w o') (IsElement w o') m k r (omega (arith, lk)) hr in
      let all = each-product (IsLeft a.0) (IsOther b.0) (λ p. IsRight p.0 p.1) (λ x y hx hy. below a.0 b.0 x y a.1 b.1 hx hy) (opened_to l) (opened_to r) a.2 b.2 in
      let box_l : node_box o.box_of l ≡ hull v o.box_of (elements l) = box_is_hull laws ok h l hl in
      let box_r : node_box o'.box_of r ≡ hull w o'.box_of (elements r) = box_is_hull laws' ok' k r hr in
      let merged_l = box_l ∙ ap (hull v o.box_of) (sym a.3) ∙ sym (merged_is_hull laws ok a.0 (opened_to l) a.2) in
      let merged_r = box_r ∙ ap (hull w o'.box_of) (sym b.3) ∙ sym (merged_is_hull laws' ok' b.0 (opened_to r) b.2) in
      by-meeting l r (does_meet meets o.box_of o'.box_of l r) refl gone a.3 b.3 all (λ missed. (
        all-pruned a.0 b.0 (opened_to l) (opened_to r) a.2 b.2 all (sym (λ i. meets (merged_l i) (merged_r i)) ∙ missed),
        none-joined (elements l) (elements r) (sound v o h l hl) (sound w o' k r hr) (sym (λ i. meets (box_l i) (box_r i)) ∙ missed),
      ))

  by-kind : (l : RTreeNode T E) (r : RTreeNode U F) → Kind meets o.box_of o'.box_of l r
      → (IsOpened meets o.box_of o'.box_of (does_meet meets o.box_of o'.box_of l r) (opened_to l) (opened_to r) l r → IsRight l r) → IsRight l r
  by-kind l r (inl two) inner = leaves-right two.0 two.1 l r two.2
  by-kind l r (inr gone) inner = inner gone

  -- two whole nodes, by a bound of both heights
  right : (m h k : ℕ) (l : RTreeNode T E) (r : RTreeNode U F) → h ≤ m → k ≤ m → IsLeft h l → IsOther k r → IsRight l r
  right zero (suc h) k l r lh lk hl hr = absurd (omega (arith, lh))
  right zero zero (suc k) l r lh lk hl hr = absurd (omega (arith, lk))
  right zero zero zero l r lh lk hl hr = let a = is_leaf _ l hl in let b = is_leaf _ r hr in leaves-right a.0 b.0 l r (leaves meets o.box_of o'.box_of l r a.0 b.0 a.1 b.1)
  right (suc m) h k l r lh lk hl hr = by-kind l r (kinds meets o.box_of o'.box_of l r) (deeper m (right m) h k l r lh lk hl hr)

  all-right : (h k : ℕ) (ls : List (RTreeNode T E)) (rs : List (RTreeNode U F)) → AreWhole v o h ls → AreWhole w o' k rs → AreRight ls rs
  all-right h k = each-product (IsLeft h) (IsOther k) (λ p. IsRight p.0 p.1) (λ x y hx hy. right (max h k) h k x y (omega arith) (omega arith) hx hy)

  -- what the walk gives of whole nodes is the join of their elements
  pub nodes-joined : (h k : ℕ) (ls : List (RTreeNode T E)) (rs : List (RTreeNode U F)) → AreWhole v o h ls → AreWhole w o' k rs
      → IsPermutation (all_pairs meets o.box_of o'.box_of ls rs) (join meets o.box_of o'.box_of (all_elements ls) (all_elements rs))
  nodes-joined h k ls rs hl hr = pairs-joined ls rs (all-right h k ls rs hl hr)

  -- ---- two roots

  module _ (left : ParentNode T E) (other : ParentNode U F) (hl : IsWhole v o left) (hr : IsWhole w o' other) where
    below-right : AreRight (children_of left) (children_of other)
    below-right = all-right hl.height hr.height (children_of left) (children_of other) hl.below hr.below

    pub roots-joined : IsPermutation (pairs_from_roots meets o.box_of o'.box_of left other) (join meets o.box_of o'.box_of (elements_of left) (elements_of other))
    roots-joined = by_test (meets (envelope_of left) (envelope_of other)) refl where
      by_test : (b : Bool) → meets (envelope_of left) (envelope_of other) ≡ b
          → IsPermutation (if b then all_pairs meets o.box_of o'.box_of (children_of left) (children_of other) else []) (join meets o.box_of o'.box_of (elements_of left) (elements_of other))
      by_test true is = nodes-joined hl.height hr.height (children_of left) (children_of other) hl.below hr.below
      by_test false is =
          IsPermutation-same _ _ (sym (none-joined (elements_of left) (elements_of other) (all_sound v o hl.height (children_of left) hl.below) (all_sound w o' hr.height (children_of other) hr.below)
          (sym (λ i. meets (hl.tight i) (hr.tight i)) ∙ is)))

    -- the roots that meet are opened first
    pub roots-counted : meets (envelope_of left) (envelope_of other) ≡ true → children_of left ≢ [] → children_of other ≢ []
        → meet_of_roots meets o.box_of o'.box_of left other ≡ 1 + all_opens meets o.box_of o'.box_of (children_of left) (children_of other)
    roots-counted is some some' =
        (meet-roots meets o.box_of o'.box_of (envelope_of left) (envelope_of other) (children_of left) (children_of other)).1 some some'
        ∙ (λ i. (if is i then 1 else 0) + all-counted (children_of left) (children_of other) below-right i)

    -- those that do not give nothing, and Meet counts nothing
    pub roots-apart : meets (envelope_of left) (envelope_of other) ≡ false
        → (meet_of_roots meets o.box_of o'.box_of left other ≡ 0) × (pairs_from_roots meets o.box_of o'.box_of left other ≡ [])
    roots-apart missed =
        let merged_l = hl.tight ∙ sym (merged_is_hull laws ok hl.height (children_of left) hl.below) in
        let merged_r = hr.tight ∙ sym (merged_is_hull laws' ok' hr.height (children_of other) hr.below) in
        let none = all-pruned hl.height hr.height (children_of left) (children_of other) hl.below hr.below below-right (sym (λ i. meets (merged_l i) (merged_r i)) ∙ missed) in
        let most = (meet-roots meets o.box_of o'.box_of (envelope_of left) (envelope_of other) (children_of left) (children_of other)).0 in
        (omega (arith, most, ap (λ (b : Bool). if◌then◌else◌ {A = ℕ} b 1 0) missed, none), ap (λ (b : Bool). if b then all_pairs meets o.box_of o'.box_of (children_of left) (children_of other) else []) missed)

module _ {T E U F : Type 0} (meets : E → F → Bool) (left_box : T → E) (right_box : U → F) (left : ParentNode T E) (other : ParentNode U F) where
  -- and where one of them has no children
  pub roots-empty : (children_of left ≡ []) ⊎ (children_of other ≡ []) → (meet_of_roots meets left_box right_box left other ≡ 0) × (pairs_from_roots meets left_box right_box left other ≡ [])
  roots-empty none = by_lists (children_of left) (children_of other) none where
    if-none : (b : Bool) (ps : List (T × U)) → ps ≡ [] → (if b then ps else []) ≡ []
    if-none true ps e = e
    if-none false ps e = refl

    by_lists : (ls : List (RTreeNode T E)) (rs : List (RTreeNode U F)) → (ls ≡ []) ⊎ (rs ≡ [])
        → (meet_of_shown meets left_box right_box (parent (envelope_of left) (row_of (map shown ls))) (parent (envelope_of other) (row_of (map shown rs))) ≡ 0) × ((if meets (envelope_of left) (envelope_of other) then all_pairs meets left_box right_box ls rs else []) ≡ [])
    by_lists [] rs e = (refl, if-none (meets (envelope_of left) (envelope_of other)) [] refl)
    by_lists (l ∷ ls) [] e = (refl, if-none (meets (envelope_of left) (envelope_of other)) _ (ap (flat_map (λ p. pairs_at meets left_box right_box p.0 p.1)) (product-none (l ∷ ls))))
    by_lists (l ∷ ls) (r ∷ rs) (inl e) = cc
    by_lists (l ∷ ls) (r ∷ rs) (inr e) = cc

  pub roots-met : meets (envelope_of left) (envelope_of other) ≡ true → pairs_from_roots meets left_box right_box left other ≡ all_pairs meets left_box right_box (children_of left) (children_of other)
  roots-met is = ap (λ (b : Bool). if b then all_pairs meets left_box right_box (children_of left) (children_of other) else []) is

-- ---- the start of a walk

pub joinable : {T E U F : Type 0} (v : Boxes E) (w : Boxes F) (o : Objects T E) (o' : Objects U F) (room h k : ℕ) (ls : List (RTreeNode T E)) (rs : List (RTreeNode U F))
    → AreWhole v o h ls → AreWhole w o' k rs → max h k ≤ room → AreJoinable room ls rs
joinable v w o o' room h k ls rs hl hr fits = search (all-level v o h ls hl, all-level w o' k rs hr)

pub roots-joinable : {T E U F : Type 0} {v : Boxes E} {w : Boxes F} {o : Objects T E} {o' : Objects U F} {left : ParentNode T E} {other : ParentNode U F} → IsWhole v o left → IsWhole w o' other
    → (room : ℕ) → max (levels_below (children_of left)) (levels_below (children_of other)) ≤ room → AreJoinable room (children_of left) (children_of other)
roots-joinable {v = v} {w = w} {o = o} {o' = o'} {left = left} {other = other} hl hr room =
    joinable v w o o' room (levels_below (children_of left)) (levels_below (children_of other)) (children_of left) (children_of other)
    (at_levels (IsInner v o) (IsElement v o) (λ p q. q.1) hl.height _ (children_of left) refl hl.below)
    (at_levels (IsInner w o') (IsElement w o') (λ p q. q.1) hr.height _ (children_of other) refl hr.below)

-- a call of the walk is one of the join
module _ {T E U F : Type 0} (meets : E → F → Bool) (left_box : T → E) (right_box : U → F) (old new : IntersectionIterator T U E F)
    (left : left_root new ≡ left_root old) (right : right_root new ≡ right_root old) where
  keeps : (r : Option (Bor T × Bor U)) → IsJoining meets left_box right_box old → GoesOn meets left_box right_box old.walk new.walk
      → YieldsFirstBy (λ (p : Bor T × Bor U). the_pair p.0.now p.1.now) (pairs_to_come meets left_box right_box) old r new
      → IfNone r (pairs_opened new ≡ min (meet_by meets left_box right_box old) usize_max) → GivesPair meets left_box right_box old r new
  unfolding IsJoining
  keeps r joining on gives ended =
      let all = meet_by meets left_box right_box old in let count = on.count all joining.count in
      let same : meet_by meets left_box right_box new ≡ all = (λ i. meet_of_roots meets left_box right_box (left i) (right i)) in
      assumption (at_most meets left_box right_box all new.walk count, subst (λ n. CountsPairs meets left_box right_box n new.walk) (sym same) count)

  pub next-gives : (r : Option (Bor T × Bor U)) → IsJoining meets left_box right_box old → IsNextPair meets left_box right_box old.walk r new.walk → GivesPair meets left_box right_box old r new
  unfolding IsJoining pairs_to_come
  next-gives None joining next =
      let all = meet_by meets left_box right_box old in
      keeps None joining next.on (next.given.0, idle-pairs meets left_box right_box new.walk next.given.1) (idle-count meets left_box right_box new.walk next.given.1 all (next.on.count all joining.count))
  next-gives (Some p) joining next = keeps (Some p) joining next.on next.given tt
