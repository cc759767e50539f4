-- How deep a load goes, how it cuts elements into parts, and makes nodes of them.
use Rattle.std.proofs.Common.{Result, Ok, Err, IfOk, ◌*◌, ◌^◌, ◌≤ℤ◌, ℤ, suc, max, add-one, ◌≡◌, ◌≢◌, ◌≤◌, ◌<◌, ◌+◌, ℕ, List, [], ◌∷◌, ◌++◌, length, All, map, arith, refl, sym, ap, ◌∙◌, subst, inl, inr, append_assoc, append-nil, IsPermutation, false, slice_index_or, vec_len, ◌-◌, take, drop, zero, min}
use Rattle.std.specs.Int.{div_ceil}
use Rattle.std.specs.List.{AllPairs, AllByRecursion}
use Rattle.std.proofs.Math.Nat.{pow-zero, pow-suc, mul-le-mul_right, lt_of_mul-lt-mul_left, mul-le-mul_left, pow-le-pow_left, suc-pred-eq_of_ne-zero}
use Rattle.std.proofs.lemmas.Bool.{cases_lt}
use Rattle.std.proofs.lemmas.Grind.{div_ceil_times}
use Rattle.std.proofs.lemmas.List.{get_or_append_left, get_or-append-add, length-append, length-map, take-append-drop, length-drop, length-take-le, drop_all}
use Rattle.std.proofs.lemmas.List.Concat.{length-flat_map}
use Rattle.std.proofs.lemmas.List.Sums.{get_or-le-sum_by}
use Rattle.std.proofs.lemmas.List.Elements.{All-nil, All-cons, All-head, All-tail, All-append, All-contains, Contains-append_left, Contains-append_right, All-from_recursion, recursion_from_All}
use Rattle.std.proofs.lemmas.List.Kept.{AllPairs-cons}
use Rattle.std.proofs.lemmas.List.Sorted.{All-permutation, IsPermutation-refl, IsPermutation-trans, IsPermutation-append_left, IsPermutation-append_right, IsPermutation-append_comm, length_permutation}
use Rattle.std.proofs.Math.Seq.{take-append-add, drop-append-add, take-take}
use Rattle.std.proofs.Math.Numerals.{sub-one, one-add}
use Rattle.rstar_base.specs.Envelopes.{Boxes, EnvelopeLaws}
use Rattle.rstar_base.specs.Elements.{Objects, ObjectLaws}
use Rattle.rstar_base.specs.Hulls.{hull}
use Rattle.rstar_base.specs.Clusters.{IsClusterNumber, IsLeastPower, IsRoot}
use Rattle.rstar_base.specs.Slabs.{NoneAbove, IsSlabOf}
use Rattle.rstar_base.proofs.Lists.{all-append, all_map, all_both}
use Rattle.rstar_base.specs.Orders.{IsSplitAt}
use Rattle.rstar_base.proofs.Slabs.{slab_from_split, slab_of_all}
use Rattle.rstar_base.proofs.Powers.{ceil_small, positive}
use Rattle.rstar.specs.declared.node.ParentNode.{ParentNode}
use Rattle.rstar.specs.declared.node.RTreeNode.{RTreeNode, Leaf, Parent}
use Rattle.rstar.specs.Nodes.{elements, all_elements, elements_of, children_of, node_box, IsElement, IsInner, AreWhole, IsLeafOf, IsParentOf}
use Rattle.rstar.specs.Shapes.{IsParentTree, IsAny}
use Rattle.rstar.specs.inside.ParentBounds.{HasAtMost}
use Rattle.rstar.specs.Lists.{NoneEmpty}
use Rattle.rstar.specs.Loaded.{IsSlabSize, IsPartSize, EndsAt, IsParted, IsCutAbove, HasSmallParent, IsLoadPart, GoesDeep, IsLoadDepth, IsLoaded}
use Rattle.rstar.specs.inside.Loads.{part_bound, HasNodeOf, AddsParts, IsUnderway, IsFresh, IsFreshNode, last_of, front_of, CutsSlab}
use Rattle.rstar.proofs.trees.ByChildren.{elements-Leaf, elements-Parent, is_parent, IsLeafOf-Leaf, IsParentOf-Parent}
use Rattle.rstar.proofs.trees.Trees.{merged_is_hull}
use Rattle.rstar.proofs.inserting.Insertion.{trees_map, all_elements-append}
use Rattle.rstar.proofs.lists.Items.{some_item}

pub previous : (n : ℕ) → n ≢ 0 → suc (n - 1) ≡ n
previous n some = rw sub-one (suc-pred-eq_of_ne-zero some)

half : (q n c : ℕ) → 2 ≤ c → q * c < n + c → 2 * q ≤ n + 1
half zero n c two h = omega arith
half (suc r) n c two h = omega (arith, mul-le-mul_left r two, h)

-- a part has at most half of the elements, rounded up
pub half_bound : (axes n c : ℕ) → 0 < axes → 2 ≤ c → 2 * part_bound axes c n ≤ n + 1
half_bound zero n c some two = absurd (omega arith)
half_bound (suc axes) n c some two = half (div_ceil n c) n c two (div_ceil_times n c (omega arith)).1

bound_le : (a c n : ℕ) → 2 ≤ c → 0 < n → part_bound a c n ≤ n
bound_le zero c n two some = omega arith
bound_le (suc a) c n two some = omega (arith, half_bound (suc a) n c (omega arith) two)

pub slab_positive : (n c q : ℕ) → 2 ≤ c → 0 < n → q ≡ div_ceil n c → 0 < q
slab_positive n c q two some is = rw is (lt_of_mul-lt-mul_left c (omega (arith, (div_ceil_times n c (omega arith)).0)))

-- the depth of the first slab bounds that of all
pub bound_slabs : (axes c n q x d : ℕ) → 0 < axes → 2 ≤ c → 0 < n → q ≡ div_ceil n c → x ≤ part_bound (axes - 1) c q → d ≤ x → d ≤ part_bound axes c n
bound_slabs zero c n q x d some two held is h dx = absurd (omega arith)
bound_slabs (suc a) c n q x d some two held is h dx = omega (arith, h, is, dx, bound_le (suc a - 1) c q two (slab_positive n c q two held is))

-- the parts of a list of two or more are smaller
pub falls_to_parts : (axes dims n c : ℕ) → axes ≡ dims → 0 < dims → 2 ≤ c → 2 ≤ n → part_bound axes c n * (dims + 2) + axes + 1 < n * (dims + 2)
falls_to_parts axes dims n c same some two large =
    let less : part_bound axes c n + 1 ≤ n = omega (arith, half_bound axes n c (omega arith) two) in
    omega (arith, mul-le-mul_right (dims + 2) less)

-- the last slab is no larger than the others
pub falls_to_rest : (axes c n rest wide : ℕ) → 0 < axes → 2 ≤ c → 0 < rest → rest ≤ div_ceil n c → part_bound (axes - 1) c rest * wide + (axes - 1) + 1 < part_bound axes c n * wide + axes + 1
falls_to_rest zero c n rest wide some two h within = absurd (omega arith)
falls_to_rest (suc a) c n rest wide some two h within =
    let less : part_bound (suc a - 1) c rest ≤ div_ceil n c = omega (arith, bound_le (suc a - 1) c rest two h) in
    omega (arith, mul-le-mul_right wide less)

-- ---- the number of slabs

-- the number of parts is at most that of a node's children, or two along each axis
pub cluster_bound : (most axes n k : ℕ) → 0 < most → IsClusterNumber most axes n k → max k 2 ^ axes ≤ max most (2 ^ axes)
cluster_bound most axes n k some number = elim (cases_lt 2 k) [
  | inl large ↦
      let is : max k 2 ≡ k = omega arith in
      rw is (omega (arith, number.root.within, ceil_small n (most ^ number.below) most (positive most number.below some) (omega (arith, number.depth.reaches, pow-suc most number.below))))
  | inr small ↦ let is : max k 2 ≡ 2 = omega arith in rw is (omega arith)
]

least_same : (base n d e : ℕ) → IsLeastPower base n (suc d) → IsLeastPower base n (suc e) → d ≡ e
least_same base n d e p q =
    let less : d < e → ⊥ = λ h. omega (arith, p.reaches, q.least (suc d) (omega arith)) in
    let more : e < d → ⊥ = λ h. omega (arith, q.reaches, p.least (suc e) (omega arith)) in
    omega (arith, less, more)

root_not_less : (k m r s : ℕ) → IsRoot k m r → IsRoot k m s → r < s → ⊥
root_not_less k m r s p q less =
    let next : r + 1 ≤ s = omega arith in
    omega (arith, p.greatest, q.within, pow-le-pow_left next k)

-- there is one cluster number
number_same : (most axes n c d : ℕ) → IsClusterNumber most axes n c → IsClusterNumber most axes n d → c ≡ d
number_same most axes n c d p q =
    let other = rw (least_same most n q.below p.below q.depth p.depth) at q.root in
    omega (arith, root_not_less axes _ c d p.root other, root_not_less axes _ d c other p.root)

-- the parts of a load are those of the slabs that it cuts
pub part_of_load : (most axes n c k m : ℕ) → IsClusterNumber most axes n k → c ≡ max k 2 → IsLoadPart most axes n m → IsPartSize c axes n m
part_of_load most axes n c k m number is part = rw (is, number_same most axes n k part.0 number part.1) part.2

load_of_part : (most axes n c k m : ℕ) → IsClusterNumber most axes n k → c ≡ max k 2 → IsPartSize c axes n m → IsLoadPart most axes n m
load_of_part most axes n c k m number is part = (k, number, rw is at part)

-- ---- the depth

-- what goes deep goes less deep too
shallower : (most axes a b n : ℕ) → GoesDeep most axes b n → a ≤ b → GoesDeep most axes a n
shallower most axes zero b n h l = tt
shallower most axes (suc a) zero n h l = absurd (omega arith)
shallower most axes (suc a) (suc b) n h l = (h.0, λ m part. shallower most axes a b m (h.1 m part) (omega arith))

-- one level more than the least of the parts
pub depth_above : (most axes r n c k : ℕ) → most < n → IsClusterNumber most axes n k → c ≡ max k 2
    → ((m : ℕ) → IsPartSize c axes n m → GoesDeep most axes r m) → (m : ℕ) × IsPartSize c axes n m × EndsAt most axes r m → IsLoadDepth most axes n (1 + r)
depth_above most axes r n c k large number is deep ends = rw one-add (record {
  deep = (large, λ m part. deep m (part_of_load most axes n c k m number is part));
  ends = (ends.0, load_of_part most axes n c k ends.0 number is ends.1, ends.2);
})

-- the least over the slabs' sizes
pub deep_slabs : (most dims c axes a n q rest x y d : ℕ) → suc a ≡ axes → q ≡ div_ceil n c → ((j : ℕ) → j * q < n → n ≤ j * q + q → rest ≡ n - j * q)
    → ((m : ℕ) → IsPartSize c a q m → GoesDeep most dims x m) → ((m : ℕ) → IsPartSize c a rest m → GoesDeep most dims y m) → d ≤ x → d ≤ y → (m : ℕ) → IsPartSize c axes n m → GoesDeep most dims d m
deep_slabs most dims c axes a n q rest x y d next size only deep_q deep_rest dx dy m part =
    let here = rw (← next, ← size) at part in
    let slab = here.1 in
    elim (cases_lt (n - slab.0 * q) q) [
      | inl small ↦ let is : here.0 ≡ rest = omega (arith, slab.2, only slab.0 slab.1 (omega arith)) in shallower most dims d y m (deep_rest m (rw is at here.2)) dy
      | inr large ↦ let is : here.0 ≡ q = omega (arith, slab.2) in shallower most dims d x m (deep_q m (rw is at here.2)) dx
    ]

-- the part where the least way down ends
pub ends_slabs : (most dims c axes a n q rest x y d : ℕ) → suc a ≡ axes → 2 ≤ c → 0 < n → q ≡ div_ceil n c → rest ≤ q → (j : ℕ) × (j * q < n) × (rest ≡ n - j * q)
    → (m : ℕ) × IsPartSize c a q m × EndsAt most dims x m → (m : ℕ) × IsPartSize c a rest m × EndsAt most dims y m → d ≡ min x y → (m : ℕ) × IsPartSize c axes n m × EndsAt most dims d m
ends_slabs most dims c axes a n q rest x y d next two some size within last ends_q ends_rest least =
    let q_le : q ≤ n = omega (arith, bound_le 1 c n two some, size) in
    let first_slab : IsSlabSize c n q = rw (← size) (0, omega arith, omega arith) in
    let last_slab : IsSlabSize c n rest = rw (← size) (last.0, last.1, omega (arith, last.2, within)) in
    elim (cases_lt y x) [
      | inl less ↦ let is : d ≡ y = omega arith in rw (is, ← next) (ends_rest.0, (rest, last_slab, ends_rest.1), ends_rest.2)
      | inr more ↦ let is : d ≡ x = omega arith in rw (is, ← next) (ends_q.0, (q, first_slab, ends_q.1), ends_q.2)
    ]

-- what the way down of a node asks of its parts, and that of a part of its slabs
pub deep_large : (most axes below n : ℕ) → below ≢ 0 → GoesDeep most axes below n → most < n
deep_large most axes below n some deep = (rw (← previous below some) at deep).0

pub deep_parts : (most axes dims below n c k : ℕ) → below ≢ 0 → GoesDeep most axes below n → dims ≡ axes → IsClusterNumber most axes n k → c ≡ max k 2 → (m : ℕ) → IsPartSize c dims n m → GoesDeep most axes (below - 1) m
deep_parts most axes dims below n c k some deep same number is m part = (rw (← previous below some) at deep).1 m (load_of_part most axes n c k m number is (rw same at part))

pub deep_slab : (most dims below c axes n s : ℕ) → axes ≢ 0 → ((m : ℕ) → IsPartSize c axes n m → GoesDeep most dims below m) → IsSlabSize c n s → (m : ℕ) → IsPartSize c (axes - 1) s m → GoesDeep most dims below m
deep_slab most dims below c axes n s some deep slab m part = deep m (rw (← previous axes some) (s, slab, part))

-- ---- lists

module _ {A : Type 0} where
  pub All-front : (P : A → Type 0) (xs ys : List A) → All P (xs ++ ys) → All P xs
  All-front P xs ys f k d h = subst P (get_or_append_left xs ys d k h) (f k d (omega (arith, length-append xs ys)))

  pub All-back : (P : A → Type 0) (xs ys : List A) → All P (xs ++ ys) → All P ys
  All-back P xs ys f k d h = subst P (get_or-append-add xs ys k d) (f (length xs + k) d (omega (arith, length-append xs ys)))

  AllPairs-append : (R : A → A → Type 0) (xs ys : List A) → AllPairs R xs → AllPairs R ys → All (λ x. All (R x) ys) xs → AllPairs R (xs ++ ys)
  AllPairs-append R [] ys f g cross = g
  AllPairs-append R (x ∷ xs) ys f g cross =
      AllPairs-cons R x (xs ++ ys)
      (All-append (R x) xs ys (λ k d h. f 0 (suc k) d (omega arith) (omega arith)) (All-head (λ x. All (R x) ys) x xs cross))
      (AllPairs-append R xs ys (λ i j d p q. f (suc i) (suc j) d (omega arith) (omega arith)) g (All-tail (λ x. All (R x) ys) x xs cross))

  moved : (ts before slab after us zs : List A) → IsPermutation ts (before ++ us) → IsPermutation before (after ++ slab) → IsPermutation slab zs → IsPermutation ts (after ++ (us ++ zs))
  moved ts before slab after us zs p q r =
      IsPermutation-trans ts (before ++ us) _ p
      (IsPermutation-trans (before ++ us) ((after ++ slab) ++ us) _ (IsPermutation-append_left us before (after ++ slab) q)
      (rw (append_assoc after slab us) (IsPermutation-append_right after (slab ++ us) (us ++ zs)
      (IsPermutation-trans (slab ++ us) (us ++ slab) _ (IsPermutation-append_comm slab us) (IsPermutation-append_right us slab zs r)))))

-- ---- slabs

taken_few : (count taken c axis n : ℕ) → 0 < c → taken * div_ceil n c < n + div_ceil n c → count ≤ taken * c ^ axis → count ≤ c ^ suc axis
taken_few count taken c axis n some full few =
    let fits : taken < c + 1 = lt_of_mul-lt-mul_left (div_ceil n c) (omega (arith, (div_ceil_times n c some).0, full)) in
    let at_most : taken ≤ c = omega arith in
    omega (arith, few, mul-le-mul_right (c ^ axis) at_most, pow-suc c axis)

-- ---- nodes

pub leaves_elements : {T : Type 0} (E : Type 0) (ts : List T) → all_elements {T = T} {E = E} (map Leaf ts) ≡ ts
leaves_elements E [] = refl
leaves_elements {T} E (t ∷ ts) = ap (λ (us : List T). us ++ all_elements {E = E} (map Leaf ts)) (elements-Leaf T E t) ∙ ap (λ (us : List T). t ∷ us) (leaves_elements E ts)

leaves_of : {T : Type 0} (E : Type 0) (R : T → Type 0) (ts : List T) → AllByRecursion R ts → AllByRecursion (IsLeafOf {T = T} {E = E} R) (map Leaf ts)
leaves_of E R [] h = tt
leaves_of {T} E R (t ∷ ts) h = (IsLeafOf-Leaf T E R t h.0, leaves_of E R ts h.1)

module _ {T E : Type 0} where
  -- what holds of all elements of some nodes holds of those of each
  each_below : (Q : T → Type 0) (ns : List (RTreeNode T E)) → All Q (all_elements ns) → All (λ n. All Q (elements n)) ns
  each_below Q [] f = All-nil (λ n. All Q (elements n))
  each_below Q (n ∷ ns) f =
      All-cons (λ n. All Q (elements n)) n ns (All-front Q (elements n) (all_elements ns) f) (each_below Q ns (All-back Q (elements n) (all_elements ns) f))

  -- a node's elements are no more than all
  part_le : (ns : List (RTreeNode T E)) → All (λ n. length (elements n) ≤ length (all_elements ns)) ns
  part_le ns k d below = rw (length-flat_map elements ns) (get_or-le-sum_by (λ n. length (elements n)) ns k d below)

  -- parents that meet more
  parent_map : {Q R : ParentNode T E → Type 0} → ((p : ParentNode T E) → Q p → R p) → (n : RTreeNode T E) → IsParentOf Q n → IsParentOf R n
  parent_map {Q} {R} f n w = let p = is_parent Q n w in subst (IsParentOf R) (sym p.1) (IsParentOf-Parent R p.0 (f p.0 p.2))

  -- elements that are nowhere above some nodes' are nowhere above those of each
  parted_each : (key : T → ℤ) (slab : List T) (us zs : List (RTreeNode T E)) → IsPermutation slab (all_elements zs) → NoneAbove key slab (all_elements us)
      → All (λ m. All (λ n. NoneAbove key (elements n) (elements m)) zs) us
  parted_each key slab us zs same f i d p j e q a b r =
      each_below (λ y. key (slice_index_or (elements (slice_index_or zs j e)) a b) ≤ℤ key y) us
      (each_below (λ x. All (λ y. key x ≤ℤ key y) (all_elements us)) zs (All-permutation (λ x. All (λ y. key x ≤ℤ key y) (all_elements us)) slab (all_elements zs) same f) j e q a b r) i d p

  module _ {key : T → ℕ → ℤ} {Good : RTreeNode T E → Type 0} {c axis : ℕ} {ts : List T} where
    -- no slab was taken yet
    pub underway_start : {old : List (RTreeNode T E)} → ts ≢ [] → IsUnderway key Good c axis ts ts old old
    underway_start {old} some = record {
      added = [];
      is = sym (append-nil old);
      same = rw append-nil (IsPermutation-refl ts);
      good = tt;
      parted = λ i j d p q. absurd (omega arith);
      small = All-nil (λ n. length (elements n) ≤ div_ceil (length ts) c);
      above = λ i d p j e q. absurd (omega arith);
      taken = 0;
      left = omega arith;
      full = omega (arith, some_item ts some);
      few = omega arith;
      each = λ j m below part. absurd (omega arith);
    }

    -- a slab was taken, and the nodes of its elements were put in. Those that were in meet more now.
    pub underway_more : {Old : RTreeNode T E → Type 0} {size : ℕ} {before slab after : List T} {old mid new : List (RTreeNode T E)} → ((n : RTreeNode T E) → Old n → Good n)
        → IsUnderway key Old c axis ts before old mid → IsSlabOf (λ t. key t axis) size before slab after → size ≡ div_ceil (length ts) c → before ≢ []
        → AddsParts key Good c axis slab mid new → IsUnderway key Good c axis ts after old new
    underway_more {Old} {size} {before} {slab} {after} {old} better u cut is_size some a =
        let over_added : T → Type 0 = λ x. All (λ y. key x axis ≤ℤ key y axis) (all_elements u.added) in
        let all_above = All-permutation over_added before (after ++ slab) cut.same u.above in
        let joined = all_elements-append u.added a.added in
        let long_slab = length_permutation slab (all_elements a.added) a.parts.same in
        record {
          added = u.added ++ a.added;
          is = a.is ∙ ap (λ ns. ns ++ a.added) u.is ∙ append_assoc old u.added a.added;
          same = rw joined (moved ts before slab after (all_elements u.added) (all_elements a.added) u.same cut.same a.parts.same);
          good = all-append Good u.added a.added (all_map Old Good better u.added u.good) a.parts.good;
          parted = AllPairs-append (IsParted key (axis + 1)) u.added a.added u.parted
              (λ i j d p q. let g = a.parts.parted i j d p q in (g.0, omega arith, g.2))
              (λ i d p j e q. (axis, omega arith, parted_each (λ t. key t axis) slab u.added a.added a.parts.same (All-back over_added after slab all_above) i d p j e q));
          small = All-append (λ n. length (elements n) ≤ div_ceil (length ts) c) u.added a.added u.small (λ k d p. omega (arith, part_le a.added k d p, long_slab, cut.size, is_size));
          above = rw joined (λ i d p. All-append (λ y. key (slice_index_or after i d) axis ≤ℤ key y axis) (all_elements u.added) (all_elements a.added) (All-front over_added after slab all_above i d p)
              (All-permutation (λ y. key (slice_index_or after i d) axis ≤ℤ key y axis) slab (all_elements a.added) a.parts.same (cut.parted i d p)));
          taken = u.taken + 1;
          left = omega (arith, length_permutation before (after ++ slab) cut.same, length-append after slab, cut.size, is_size, u.left);
          full = omega (arith, some_item before some, u.left);
          few = omega (arith, length-append u.added a.added, u.few, a.parts.few);
          each = λ j m below part. elim (cases_lt j u.taken) [
            | inl before_it ↦ let h = u.each j m before_it part in (h.0, Contains-append_left u.added a.added h.0 h.1, h.2)
            | inr at_it ↦
                let here : j ≡ u.taken = omega arith in
                let h = a.parts.each m (rw (cut.size, is_size, u.left, ← here) part) in
                (h.0, Contains-append_right u.added a.added h.0 h.1, h.2)
          ];
        }

    -- which size the next slab has
    pub next_size : {size : ℕ} {before slab after : List T} {old mid : List (RTreeNode T E)} → IsUnderway key Good c axis ts before old mid
        → IsSlabOf (λ t. key t axis) size before slab after → size ≡ div_ceil (length ts) c → before ≢ [] → IsSlabSize c (length ts) (length slab)
    next_size {before = before} u cut is_size some = (u.taken, omega (arith, some_item before some, u.left), rw (cut.size, is_size, u.left))

    -- all slabs were taken
    pub underway_end : {axes : ℕ} {remaining : List T} {old new : List (RTreeNode T E)} → 2 ≤ c → IsUnderway key Good c axis ts remaining old new → remaining ≡ [] → suc axis ≡ axes → AddsParts key Good c axes ts old new
    underway_end two u none next = rw (← next) (record {
      added = u.added;
      is = u.is;
      parts = record {
        same = rw none at u.same;
        good = u.good;
        parted = rw (← add-one axis) u.parted;
        small = u.small;
        few = taken_few (length u.added) u.taken c axis (length ts) (omega arith) u.full u.few;
        each = λ m part.
            let all_taken : part.1.0 < u.taken = lt_of_mul-lt-mul_left (div_ceil (length ts) c) (omega (arith, ap length none, u.left, part.1.1)) in
            u.each part.1.0 m all_taken (rw part.1.2 at part.2);
      };
    })

  -- ---- parents

  -- elements, each a leaf
  pub leaves_parent : (v : Boxes E) (o : Objects T E) (most widest axes : ℕ) {ts : List T} {p : ParentNode T E} → AllByRecursion o.IsValue ts → NoneEmpty v.is_empty o.box_of ts → ts ≢ []
      → p.children.items ≡ map Leaf ts → p.envelope ≡ hull v o.box_of ts → vec_len p.children ≤ widest → IsFresh v o most widest axes 0 p
  leaves_parent v o most widest axes {ts} {p} own full some are box narrow =
      let these : elements_of p ≡ ts = ap (λ ns. all_elements ns) are ∙ leaves_elements E ts in
      let count : length p.children.items ≡ length (elements_of p) = ap length are ∙ length-map ts Leaf ∙ ap length (sym these) in
      let any : AllByRecursion (IsLeafOf IsAny) p.children.items = rw are (leaves_of E IsAny ts (all_map o.IsValue IsAny (λ t h. tt) ts own)) in
      record {
        whole = (
          (rw these box, λ none. some (sym these ∙ ap (λ ns. all_elements ns) none)),
          rw are (leaves_of E (IsElement v o) ts (all_both o.IsValue (λ t. v.is_empty (o.box_of t) ≡ false) _ (λ t own full. (own, full)) ts own (recursion_from_All _ ts full))),
        );
        narrow = (omega (arith, narrow, p.children.ok.0), any);
        cut = any;
        small = λ few. omega (arith, count, few);
      }

  -- a greater bound
  pub fresh_wider : (v : Boxes E) (o : Objects T E) (most old new axes h : ℕ) → old ≤ new → (n : RTreeNode T E) → IsFreshNode v o most old axes h n → IsFreshNode v o most new axes h n
  fresh_wider v o most old new axes h le = parent_map (λ p f.
      let narrow : IsParentTree (HasAtMost new) IsAny h p = (omega (arith, f.narrow.0, le), trees_map (λ (q : ParentNode T E) (few : HasAtMost old q). omega (arith, few, le)) (λ t k. k) h p.children.items f.narrow.1) in
      assumption)

  -- one node is the only part
  pub one_part : {v : Boxes E} {o : Objects T E} {most widest axes h c k : ℕ} {ts : List T} {old new : List (RTreeNode T E)} {p : ParentNode T E} → k ≡ 0 → new ≡ old ++ Parent p ∷ [] → IsPermutation ts (elements_of p) → IsFresh v o most widest axes h p
      → AddsParts (λ t axis. v.axis_key (o.box_of t) axis) (IsFreshNode v o most widest axes h) c k ts old new
  one_part {v} {o} {most} {widest} {axes} {h} {c} {ts = ts} {p = p} here put same fresh =
      let held : length (elements (Parent p)) ≡ length ts = ap length (elements-Parent p) ∙ length_permutation ts (elements_of p) same in
      rw here (record {
        added = Parent p ∷ [];
        is = put;
        parts = record {
          same = rw (append-nil (elements (Parent p)), elements-Parent p) same;
          good = (IsParentOf-Parent (IsFresh v o most widest axes h) p fresh, tt);
          parted = λ i j d p q. absurd (omega arith);
          small = All-cons (λ n. length (elements n) ≤ length ts) (Parent p) [] (omega (arith, held)) (All-nil (λ n. length (elements n) ≤ length ts));
          few = omega (arith, pow-zero c);
          each = λ m part. (Parent p, (0, omega arith, refl), held ∙ sym part);
        };
      })

  module _ {IsPoint : List ℤ → Type 0} {v : Boxes E} {o : Objects T E} (laws : EnvelopeLaws IsPoint v) (ok : ObjectLaws v o) (most widest axes : ℕ) where
    -- a parent of leaves that is not too wide, below one of the parts
    small_below : (c b k : ℕ) (n : ℕ) (p : ParentNode T E) → AllByRecursion (IsFreshNode v o most widest axes b) (children_of p) → ((m : ℕ) → IsPartSize c axes n m → HasNodeOf m (children_of p))
        → IsClusterNumber most axes n k → c ≡ max k 2 → EndsAt most axes (suc b) n → HasSmallParent most (suc b) p
    small_below c b k n p good each number is ends =
        let has = each ends.0 (part_of_load most axes n c k ends.0 number is ends.1) in
        let q = is_parent (IsFresh v o most widest axes b) has.0 (All-contains (IsFreshNode v o most widest axes b) (children_of p) has.0 (All-from_recursion _ (children_of p) good) has.1) in
        let count : ends.0 ≡ length (elements_of q.0) = sym has.2 ∙ ap (λ n. length (elements n)) q.1 ∙ ap length (elements-Parent q.0) in
        (has.0, has.1, rw q.1 (IsParentOf-Parent (HasSmallParent most b) q.0 (q.2.small (rw count at ends.2))))

    -- parts become the children of a parent
    pub parts_parent : (b old c k : ℕ) (ts : List T) {below : ℕ} {ns : List (RTreeNode T E)} {p : ParentNode T E} → most < length ts → 2 ≤ c → c ^ axes ≤ max most (2 ^ axes) → 2 ≤ axes
        → IsClusterNumber most axes (length ts) k → c ≡ max k 2
        → old ≤ widest → AddsParts (λ t axis. v.axis_key (o.box_of t) axis) (IsFreshNode v o most old axes b) c axes ts [] ns → p.children.items ≡ ns → suc b ≡ below → p.envelope ≡ hull v (node_box o.box_of) p.children.items
        → vec_len p.children ≤ widest
        → IsFresh v o most widest axes below p
    parts_parent b old c k ts {p = p} large two few_enough some_axis number is le adds are high box few_here =
        let these : p.children.items ≡ adds.added = are ∙ adds.is in
        let same : IsPermutation ts (elements_of p) = rw these adds.parts.same in
        let long = length_permutation ts (elements_of p) same in
        let good : AllByRecursion (IsFreshNode v o most widest axes b) p.children.items = rw these (all_map (IsFreshNode v o most old axes b) _ (fresh_wider v o most old widest axes b le) adds.added adds.parts.good) in
        let small : All (λ n. length (elements n) ≤ part_bound axes c (length ts)) p.children.items = rw these adds.parts.small in
        let each_is = λ (Q : ParentNode T E → Type 0) (f : (q : ParentNode T E) → IsFresh v o most widest axes b q → Q q). all_map (IsFreshNode v o most widest axes b) (IsParentOf Q) (parent_map f) p.children.items good in
        let whole : AreWhole v o (suc b) p.children.items = each_is (IsParentTree (IsInner v o) (IsElement v o) b) (λ q f. f.whole) in
        rw (← high) (record {
          whole = (
            (
              box ∙ merged_is_hull laws ok (suc b) p.children.items whole,
              λ none. absurd (omega (arith, large, long, ap (λ (ms : List (RTreeNode T E)). length (all_elements ms)) none)),
            ),
            whole,
          );
          narrow = (omega (arith, few_here, p.children.ok.0), each_is (IsParentTree (HasAtMost widest) IsAny b) (λ q f. f.narrow));
          cut = (
            record {
              many = omega (arith, large, long);
              halves = λ i d q. omega (arith, small i d q, long, half_bound axes (length ts) c (omega arith) two);
              few = omega (arith, ap length these, adds.parts.few, few_enough);
              parted = rw these adds.parts.parted;
            },
            each_is (IsCutAbove (λ t axis. v.axis_key (o.box_of t) axis) most axes b) (λ q f. f.cut),
          );
          small = λ ends. small_below c b k (length ts) p good (rw these adds.parts.each) number is (rw long at ends);
        })

-- ---- the last items of a list, and those in front of them

module _ {A : Type 0} where
  pub length_last : (n : ℕ) (xs : List A) → n ≤ length xs → length (last_of n xs) ≡ n
  length_last n xs h = omega (arith, length-drop (length xs - n) xs)

  pub length_front : (n : ℕ) (xs : List A) → length (front_of n xs) ≡ length xs - n
  length_front n xs = length-take-le (length xs - n) xs (omega arith)

  pub some_last : (n : ℕ) (xs : List A) → 0 < n → n ≤ length xs → last_of n xs ≢ []
  some_last n xs some h none = absurd (omega (arith, length_last n xs h, ap length none))

  pub front_front : (s r : ℕ) (xs : List A) → s ≤ r → r ≤ length xs → front_of (r - s) (front_of s xs) ≡ front_of r xs
  front_front s r xs h k =
      let long : length (front_of s xs) - (r - s) ≡ length xs - r = omega (arith, length_front s xs) in
      ap (λ n. take n (front_of s xs)) long ∙ take-take (length xs - r) (length xs - s) xs (omega arith)

  pub last_none : (xs : List A) → last_of 0 xs ≡ []
  last_none xs = drop_all (length xs - 0) xs (omega arith)

  pub last_itself : (xs : List A) → last_of (length xs) xs ≡ xs
  last_itself xs = let none : length xs - length xs ≡ 0 = omega arith in ap (λ n. drop n xs) none

  -- what holds of all holds of those in front
  pub front_has : (Q : A → Type 0) (n : ℕ) (xs : List A) → All Q xs → All Q (front_of n xs)
  front_has Q n xs f = All-front Q (front_of n xs) (last_of n xs) (subst (All Q) (sym (take-append-drop (length xs - n) xs)) f)

  pub last_has : (Q : A → Type 0) (n : ℕ) (xs : List A) → All Q xs → All Q (last_of n xs)
  last_has Q n xs f = All-back Q (front_of n xs) (last_of n xs) (subst (All Q) (sym (take-append-drop (length xs - n) xs)) f)

module _ {T : Type 0} (key : T → ℤ) where
  -- the rest is a slab
  pub cut_none : (size rest : ℕ) (xs : List T) → rest ≤ length xs → rest ≤ size → CutsSlab key size rest xs rest xs
  cut_none size rest xs within few =
      let none : rest - rest ≡ 0 = omega arith in
      record {
        count = omega arith;
        same = IsPermutation-refl xs;
        front = refl;
        cut = slab_of_all key size (last_of rest xs) (last_of rest xs) (last_of (rest - rest) (front_of rest xs)) (omega (arith, length_last rest xs within)) refl
            (ap (λ n. last_of n (front_of rest xs)) none ∙ last_none (front_of rest xs));
      }

  -- the last items were parted at a place
  pub cut_parted : (size rest : ℕ) (xs front last parted : List T) → rest ≤ length xs → size < rest → 0 < size
      → front ≡ take (length xs - rest) xs → last ≡ drop (length xs - rest) xs → IsPermutation last parted → IsSplitAt key (rest - size) parted
      → CutsSlab key size rest xs size (front ++ parted)
  cut_parted size rest xs front last parted within many some in_front behind same split =
      let long_front : length front ≡ length xs - rest = ap length in_front ∙ length_front rest xs in
      let long_last : length last ≡ rest = ap length behind ∙ length_last rest xs within in
      let long_parted = length_permutation last parted same in
      let long_new = length-append front parted in
      let was : front ++ last ≡ xs = ap (λ l. l ++ last) in_front ∙ ap (λ l. take (length xs - rest) xs ++ l) behind ∙ take-append-drop (length xs - rest) xs in
      let at_front : length (front ++ parted) - rest ≡ length front + 0 = omega (arith, long_front, long_last, long_parted, long_new) in
      let at_slab : length (front ++ parted) - size ≡ length front + (rest - size) = omega (arith, long_front, long_last, long_parted, long_new) in
      let fronts : front_of rest (front ++ parted) ≡ front = ap (λ n. take n (front ++ parted)) at_front ∙ take-append-add front parted 0 ∙ append-nil front in
      let others : front_of size (front ++ parted) ≡ front ++ take (rest - size) parted = ap (λ n. take n (front ++ parted)) at_slab ∙ take-append-add front parted (rest - size) in
      let slab : last_of size (front ++ parted) ≡ drop (rest - size) parted = ap (λ n. drop n (front ++ parted)) at_slab ∙ drop-append-add front parted (rest - size) in
      let long_others : length (front ++ take (rest - size) parted) - (rest - size) ≡ length front + 0 = omega (arith, length-append front (take (rest - size) parted), length-take-le (rest - size) parted (omega (arith, long_last, long_parted))) in
      let left : last_of (rest - size) (front_of size (front ++ parted)) ≡ take (rest - size) parted =
      ap (λ l. last_of (rest - size) l) others ∙ ap (λ n. drop n (front ++ take (rest - size) parted)) long_others ∙ drop-append-add front (take (rest - size) parted) 0 in
      record {
        count = omega arith;
        same = subst (λ l. IsPermutation l (front ++ parted)) was (IsPermutation-append_right front last parted same);
        front = fronts ∙ in_front;
        cut = slab_from_split key size (rest - size) (last_of rest xs) parted (last_of size (front ++ parted)) (last_of (rest - size) (front_of size (front ++ parted)))
            (omega (arith, length_last rest xs within)) some (subst (λ l. IsPermutation l parted) behind same) split left slab;
      }

-- a load of a whole list
pub whole_load : {T E X : Type 0} (v : Boxes E) (o : Objects T E) (most axes widest levels : ℕ) (ts : List T) (r : Result (ParentNode T E) X) → IsLoadDepth most axes (length ts) levels
    → IfOk r (λ p. IsPermutation ts (elements_of p)) → IfOk r (IsFresh v o most widest axes levels) → IfOk r (IsLoaded v o most axes)
whole_load v o most axes widest levels ts (Ok p) depth same fresh =
    let long = length_permutation ts (elements_of p) same in
    record { levels = levels; cut = fresh.cut; small = fresh.small (rw long depth.ends); depth = rw long depth }
whole_load v o most axes widest levels ts (Err e) depth same fresh = tt
