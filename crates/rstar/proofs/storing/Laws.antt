-- What is spelled so is read: nodes, one after another, a parent of them, and a whole tree, which has one spelling; and what is made of it.
use Rattle.std.proofs.Common.{◌≡◌, ℕ, ℤ, zero, suc, ◌+◌, ◌*◌, ◌^◌, ◌<◌, ◌≤◌, ◌&&◌, Bool, true, false, cond, eqb, ltb, List, [], ◌∷◌, ◌++◌, length, map, Ok, Err, refl, sym, ap, ap₂, subst, ◌∙◌, append_assoc, arith, if◌then◌else◌, ◌==◌, ◌≢◌, Result, append-nil, inl, inr, ◌-◌, ◌⊎◌}
use Rattle.std.specs.List.{AllByRecursion}
use Rattle.std.specs.Ordering.{int_eq}
use Rattle.std.specs.Cmp.Lexicographic.{pointwise}
use Rattle.std.specs.Cmp.Rules.{signed_items}
use Rattle.std.proofs.lemmas.Bool.{ne_eqb, le-ltb, eq-eqb, cases_eq}
use Rattle.std.proofs.lemmas.List.{length-append, length-map}
use Rattle.std.proofs.lemmas.List.Elements.{All-from_recursion}
use Rattle.rstar_base.specs.Boxes.{IsBox, in_range, all_in_range}
use Rattle.rstar_base.specs.Points.{IsPoint}
use Rattle.rstar_base.specs.Scalars.{InRange}
use Rattle.rstar_base.specs.laws.PointLemmas.{and_parts, and_both}
use Rattle.rstar_base.proofs.Hulls.{hull-value}
use Rattle.rstar_base.proofs.Lists.{all_map, all-append}
use Rattle.rstar_base.proofs.SegmentLemmas.{fits_within}
use Rattle.rstar_base.specs.Envelopes.{Boxes, EnvelopeLaws}
use Rattle.rstar_base.specs.Elements.{Objects, ObjectLaws}
use Rattle.rstar_base.specs.Hulls.{hull}
use Rattle.rstar_base.specs.Segments.{coordinate}
use Rattle.rstar_base.specs.laws.BoxLaws.{corners-box, corners-upright, le_same}
use Rattle.rstar_base.specs.laws.BoxEnvelopes.{box_laws}
use Rattle.rstar.specs.Meets.{shown_box}
use Rattle.rstar.specs.declared.stored.StoredError.TheVariants.{BadBox, BadCount, Trailing, NoMemory}
use Rattle.rstar.specs.Nodes.{joined, elements, elements_of, all_elements, node_box, IsElement, IsTree, children_of}
use Rattle.rstar.specs.Shown.{ShownRow, leaf, parent, end, more, row_of, nodes_in, shown, shown_root}
use Rattle.rstar.specs.Stored.{Place, Box, Tree, low, high, places, merge_of, IsStored, number, point, corners, spelling, boxes, points_of, IsStoredTree, Spells, magic, root_spelling}
use Rattle.rstar.specs.StoredReading.{◌>>=◌, leaf_at, each_at, has_corners, children_at, parent_at, node_at, Gives, ended, root_at, levels_at, tree_at, Read, number_at, point_at}
use Rattle.rstar.specs.declared.stored.StoredError.{StoredError}
use Rattle.rstar.specs.StoredFaults.{BeginsTree}
use Rattle.rstar.specs.declared.node.RTreeNode.{RTreeNode, Leaf, Parent}
use Rattle.rstar.specs.declared.node.ParentNode.{ParentNode}
use Rattle.rstar.specs.inside.ParentBounds.{IsKeptInner, IsKeptTree, AreKept}
use Rattle.rstar.proofs.joining.PairsByChildren.{nodes-row, folded-row, shown-box}
use Rattle.rstar.proofs.storing.Bytes.{number_again, point_again, point_long, ok_is}
use Rattle.rstar.proofs.trees.ByChildren.{joined-map, shown-Leaf, shown-Parent}
use Rattle.rstar.proofs.trees.Shown.{elements-row}
use Rattle.rstar.proofs.inserting.Insertion.{trees_map, inner_of_fit, all_elements-append, all_elements-single}

module _ {T E : Type 0} (v : Boxes E) (o : Objects T E) where
  pub kept_wider : (w w' h : ℕ) (ns : List (RTreeNode T E)) → w ≤ w' → AreKept v o w h ns → AreKept v o w' h ns
  kept_wider w w' h ns le = trees_map (λ p k. (record { tight = k.0.tight; narrow = let few = k.0.narrow in omega (arith, few, le) }, k.1)) (λ t k. k) h ns

  -- one node more
  pub kept_push : (w w' h : ℕ) (old new : List (RTreeNode T E)) (n : RTreeNode T E) → w ≤ w' → new ≡ old ++ n ∷ [] → AreKept v o w h old → AreKept v o w' h (n ∷ []) → AreKept v o w' h new
  kept_push w w' h old new n le is before one = subst (λ ns. AreKept v o w' h ns) (sym is) (all-append (IsTree (IsKeptInner v o w') (IsElement v o) h) old (n ∷ []) (kept_wider w w' h old le before) one)

-- one node more, and its elements
pub points_push : {T E : Type 0} (old new : List (RTreeNode T E)) (n : RTreeNode T E) (was now next : ℕ) → new ≡ old ++ n ∷ [] → now ≡ was + length (all_elements old) → next ≡ now + length (elements n) → next ≡ was + length (all_elements new)
points_push old new n was now next is before one =
    let all : length (all_elements new) ≡ length (all_elements old) + length (elements n) = ap (λ ns. length (all_elements ns)) is ∙ ap length (all_elements-append old (n ∷ []) ∙ ap (λ ts. all_elements old ++ ts) (all_elements-single n)) ∙ length-append (all_elements old) (elements n) in
    omega (arith, all, before, one)

-- the merge of what nodes show is that of the nodes
pub merge_same : {T E : Type 0} (v : Boxes E) (box_of : T → E) (ns : List (RTreeNode T E)) → hull v (shown_box box_of) (map shown ns) ≡ hull v (node_box box_of) ns
merge_same v box_of [] = refl
merge_same v box_of (n ∷ ns) = ap (λ e. v.merge e (hull v (shown_box box_of) (map shown ns))) (shown-box box_of n) ∙ ap (v.merge (node_box box_of n)) (merge_same v box_of ns)

-- ---- points

point_in : (p : Place) → IsPoint low high 2 p → (i : ℕ) → i < 2 → InRange low high (coordinate p i)
point_in p is i lt = is.ranged i _ (omega (arith, lt, is.long))

-- a point of two coordinates is an element that a tree may hold
pub point_element : (p : Place) → IsPoint low high 2 p → IsElement boxes places p
point_element p is = (
  corners-box low high 2 (coordinate p) (coordinate p) (point_in p is) (point_in p is) (λ i lt. le_same (coordinate p i) (coordinate p i) (coordinate p i) refl refl),
  corners-upright 2 (coordinate p) (coordinate p) (λ i lt. le_same (coordinate p i) (coordinate p i) (coordinate p i) refl refl),
)

pub point_laws : EnvelopeLaws (IsPoint low high 2) boxes
point_laws = box_laws low high 2 (record { lt = tt }) (record { lt = tt })

pub place_laws : ObjectLaws boxes places
place_laws = λ t h. h

-- what reading gives for a leaf
pub leaf_read : (h : ℕ) (bytes : List ℕ) (p : Place) (rest : List ℕ) → h ≡ 0 → point_at bytes ≡ Ok (p, rest) → node_at h bytes ≡ Ok (shown {E = Box} (Leaf p), rest)
unfolding node_at leaf_at
leaf_read h bytes p rest none e = rw (none, e, shown-Leaf Place Box p) refl

-- a parent of such nodes, under the merge of their boxes
pub parent_kept : (w w' h : ℕ) (p : ParentNode Place Box) → w ≤ w' → length p.children.items ≤ w' → 0 < length p.children.items → p.envelope ≡ hull boxes (node_box places.box_of) p.children.items
    → AreKept boxes places w h p.children.items → IsKeptTree boxes places w' h p
parent_kept w w' h p le few some merged trees =
    let kept = kept_wider boxes places w w' h p.children.items le trees in
    (inner_of_fit point_laws place_laws w' h p kept (record { merged = merged; some = some; narrow = few }), kept)

-- ---- what reading gives

pub parent_read : (h : ℕ) (bytes : List ℕ) (p : ParentNode Place Box) (rest : List ℕ) → 0 < h → parent_at (node_at (h - 1)) bytes ≡ Ok (shown_root p, rest) → node_at h bytes ≡ Ok (shown (Parent p), rest)
unfolding node_at
parent_read h bytes p rest some e = let up : h ≡ suc (h - 1) = omega (arith, some) in rw (up, e, shown-Parent p) refl

pub some_eqb : (n : ℕ) → 0 < n → eqb n 0 ≡ false
some_eqb n some = ne_eqb n 0 (λ none. omega (arith, none, some))

-- the answer for a parent whose parts were read, by nodes that show its children
pub parent_shown : (child : List ℕ → Read Tree) (bytes r0 r1 r2 rest : List ℕ) (count : ℕ) (lower upper : Place) (ns : List (RTreeNode Place Box)) (merged : Box) (b : Bool) → number_at bytes ≡ Ok (count, r0) → 0 < count → 32 + 16 * count ≤ length r0
    → point_at r0 ≡ Ok (lower, r1) → point_at r1 ≡ Ok (upper, r2) → each_at child count r2 ≡ Ok (map shown ns, rest)
    → merged ≡ hull boxes (node_box places.box_of) ns → has_corners lower upper merged ≡ b
    → parent_at child bytes ≡ (if b then Ok (parent merged (row_of (map shown ns)), rest) else Err BadBox)
unfolding parent_at children_at
parent_shown child bytes r0 r1 r2 rest count lower upper ns merged b e0 some long e1 e2 e3 is test =
    let room : ltb (length r0) (32 + 16 * count) ≡ false = le-ltb _ _ long in
    let same : merge_of (map shown ns) ≡ merged = merge_same boxes places.box_of ns ∙ sym is in
    rw (e0, some_eqb count some, room, e1, e2, e3, same, test) refl

-- ---- the children of a parent one after another, as a loop reads them

-- what was read before, and what is still read
abbrev pub with_front : List Tree → Read (List Tree) → Read (List Tree)
with_front front read = read >>= λ x. Ok (front ++ x.0, x.1)

regroup : (front : List Tree) (n : Tree) (read : Read (List Tree)) → with_front front (read >>= λ x. Ok (n ∷ x.0, x.1)) ≡ with_front (front ++ n ∷ []) read
regroup front n (Ok x) = ap (λ (ns : List Tree). Ok (ns, x.1)) (sym (append_assoc front (n ∷ []) x.0))
regroup front n (Err e) = refl

module _ (child : List ℕ → Read Tree) where
  pub goes_on : (front : List Tree) (count i : ℕ) (bytes : List ℕ) (n : Tree) (after : List ℕ) (total : Read (List Tree)) → i < count → child bytes ≡ Ok (n, after)
      → with_front front (each_at child (count - i) bytes) ≡ total → with_front (front ++ n ∷ []) (each_at child (count - (i + 1)) after) ≡ total
  unfolding each_at
  goes_on front count i bytes n after total lt h so_far =
      let k : count - i ≡ suc (count - (i + 1)) = omega arith in
      sym (regroup front n (each_at child (count - (i + 1)) after)) ∙ (rw (k, h) at so_far)

  pub ends : (e : StoredError) (front : List Tree) (count i : ℕ) (bytes : List ℕ) (total : Read (List Tree)) → i < count → (e ≡ NoMemory) ⊎ (child bytes ≡ Err e)
      → with_front front (each_at child (count - i) bytes) ≡ total → (e ≡ NoMemory) ⊎ (total ≡ Err e)
  unfolding each_at
  ends e front count i bytes total lt (inl m) so_far = inl m
  ends e front count i bytes total lt (inr h) so_far =
      let k : count - i ≡ suc (count - (i + 1)) = omega arith in
      inr (sym so_far ∙ rw (k, h) refl)

  pub is_done : (front : List Tree) (count i : ℕ) (bytes : List ℕ) (total : Read (List Tree)) → count ≤ i → with_front front (each_at child (count - i) bytes) ≡ total → total ≡ Ok (front, bytes)
  unfolding each_at
  is_done front count i bytes total le so_far =
      let k : count - i ≡ 0 = omega arith in
      sym so_far ∙ rw k (ap (λ (ns : List Tree). Ok (ns, bytes)) (append-nil front))

-- ---- how many points

-- the points that a root shows are its elements
pub root_points : (p : ParentNode Place Box) → points_of (shown_root p) ≡ elements_of p
root_points p =
    ap joined (folded-row (λ (q : Place). q ∷ []) (λ b below. joined below) (map shown (children_of p))) ∙ joined-map points_of (map shown (children_of p)) ∙ sym (elements-row (children_of p))

-- the answer for a root that was read
pub root_by : (below count points : ℕ) (bytes rest : List ℕ) (p : ParentNode Place Box) → parent_at (node_at below) bytes ≡ Ok (shown_root p, rest) → points ≡ 0 + length (elements_of p)
    → root_at (suc below) count bytes ≡ (if points == count then ended (shown_root p) rest else Err BadCount)
unfolding root_at node_at
root_by below count points bytes rest p e counted =
    let long = ap length (root_points p) in
    let size : length (points_of (shown_root p)) ≡ points = omega (arith, long, counted) in
    rw (e, size) refl

-- a root without children
pub root_shows_none : (p : ParentNode Place Box) → children_of p ≡ [] → p.envelope ≡ boxes.empty → shown_root p ≡ parent boxes.empty end
root_shows_none p none empty = ap (λ ns. parent p.envelope (row_of (map shown ns))) none ∙ ap (λ e. parent e end) empty

abbrev pub lowers : Box → Place
lowers b = map (λ x. x.0) b

abbrev pub uppers : Box → Place
uppers b = map (λ x. x.1) b

-- ---- a parent over a list of nodes

pub spelling-parent : (b : Box) (ns : List Tree) → spelling (parent b (row_of ns)) ≡ number (length ns) ++ corners b ++ joined (map spelling ns)
spelling-parent b ns =
    ap (λ (below : List (List ℕ)). number (length below) ++ corners b ++ joined below)
    (folded-row point (λ e below. number (length below) ++ corners e ++ joined below) ns)
    ∙ ap (λ (k : ℕ). number k ++ corners b ++ joined (map spelling ns)) (length-map ns spelling)

pub stored_parent : (h : ℕ) (b : Box) (ns : List Tree) → 0 < length ns → length ns < 2 ^ 64 → b ≡ merge_of ns → AllByRecursion (IsStored h) ns → IsStored (suc h) (parent b (row_of ns))
stored_parent h b ns some few merged all =
    subst (λ (ms : List Tree). (0 < length ms) × (length ms < 2 ^ 64) × (b ≡ merge_of ms) × AllByRecursion (IsStored h) ms) (sym (nodes-row ns)) (some, few, merged, all)

row_nodes : (below : ShownRow Place Box) → row_of (nodes_in below) ≡ below
row_nodes end = refl
row_nodes (more n ns) = ap (more n) (row_nodes ns)

-- ---- corners

pub same_corners : (b : Box) (lower upper : Place) → has_corners lower upper b ≡ true → corners b ≡ point lower ++ point upper
same_corners b lower upper e =
    let p = and_parts (pointwise int_eq (lowers b) lower) (pointwise int_eq (uppers b) upper) e in
    ap₂ (λ (l u : Place). point l ++ point u) ((signed_items (lowers b) lower).0 p.0) ((signed_items (uppers b) upper).0 p.1)

pub self_corners : (b : Box) → has_corners (lowers b) (uppers b) b ≡ true
self_corners b = and_both (pointwise int_eq (lowers b) (lowers b)) (pointwise int_eq (uppers b) (uppers b)) ((signed_items (lowers b) (lowers b)).1 refl) ((signed_items (uppers b) (uppers b)).1 refl)

corners_ranged : (b : Box) → all_in_range low high b ≡ true → AllByRecursion (λ z. InRange low high z) (lowers b) × AllByRecursion (λ z. InRange low high z) (uppers b)
corners_ranged [] e = (tt, tt)
corners_ranged (x ∷ b) e =
    let p = and_parts (in_range low high x.0 && in_range low high x.1) (all_in_range low high b) e in
    let q = and_parts (in_range low high x.0) (in_range low high x.1) p.0 in
    let rest = corners_ranged b p.1 in
    ((within x.0 q.0, rest.0), (within x.1 q.1, rest.1)) where
      within : (z : ℤ) → in_range low high z ≡ true → InRange low high z
      within z e = let p = fits_within low high z e in record { above = p.0; below = p.1 }

-- the corners of a box are points
box_corners : (b : Box) → IsBox low high 2 b → IsPoint low high 2 (lowers b) × IsPoint low high 2 (uppers b)
box_corners b is =
    let p = corners_ranged b is.ranged in (
      record { long = length-map b (λ (x : ℤ × ℤ). x.0) ∙ is.long; ranged = All-from_recursion (λ z. InRange low high z) (lowers b) p.0 },
      record { long = length-map b (λ (x : ℤ × ℤ). x.1) ∙ is.long; ranged = All-from_recursion (λ z. InRange low high z) (uppers b) p.1 },
    )

abbrev HasBox : Tree → Type 0
HasBox t = IsBox low high 2 (shown_box places.box_of t)

merge_boxed : (h : ℕ) → ((t : Tree) → IsStored h t → HasBox t) → (ns : List Tree) → AllByRecursion (IsStored h) ns → IsBox low high 2 (merge_of ns)
merge_boxed h one ns all = hull-value point_laws (shown_box places.box_of) ns (all_map (IsStored h) HasBox one ns all)

stored_boxed : (h : ℕ) (t : Tree) → IsStored h t → HasBox t
stored_boxed zero (leaf p) is = (point_element p is).0
stored_boxed zero (parent b below) is = absurd is
stored_boxed (suc h) (leaf p) is = absurd is
stored_boxed (suc h) (parent b below) is = subst (IsBox low high 2) (sym is.2) (merge_boxed h (stored_boxed h) (nodes_in below) is.3)

pub merge_corners : (h : ℕ) (ns : List Tree) → AllByRecursion (IsStored h) ns → IsPoint low high 2 (lowers (merge_of ns)) × IsPoint low high 2 (uppers (merge_of ns))
merge_corners h ns all = box_corners (merge_of ns) (merge_boxed h (stored_boxed h) ns all)

-- ---- what is spelled so is read

abbrev pub ReadsNodes : ℕ → Type 0
ReadsNodes h = (t : Tree) (rest : List ℕ) → IsStored h t → (node_at h (spelling t ++ rest) ≡ Ok (t, rest)) × (16 ≤ length (spelling t))

pub each_again : (h : ℕ) → ReadsNodes h → (ns : List Tree) (rest : List ℕ) → AllByRecursion (IsStored h) ns
    → (each_at (node_at h) (length ns) (joined (map spelling ns) ++ rest) ≡ Ok (ns, rest)) × (16 * length ns ≤ length (joined (map spelling ns)))
unfolding each_at
each_again h one [] rest all = (refl, omega arith)
each_again h one (n ∷ ns) rest all =
    let first = one n (joined (map spelling ns) ++ rest) all.0 in
    let others = each_again h one ns rest all.1 in (
      ap (each_at (node_at h) (suc (length ns))) (append_assoc (spelling n) (joined (map spelling ns)) rest) ∙ rw (first.0, others.0) refl,
      omega (arith, first.1, others.1, length-append (spelling n) (joined (map spelling ns))),
    )

-- behind the child count and the corners of a parent
pub begun : (h count : ℕ) (l u : Place) (text rest : List ℕ) → 0 < count → count < 2 ^ 64 → IsPoint low high 2 l → IsPoint low high 2 u → 16 * count ≤ length (text ++ rest)
    → parent_at (node_at h) (number count ++ (point l ++ point u) ++ text ++ rest)
    ≡ (each_at (node_at h) count (text ++ rest) >>= λ ns. cond (has_corners l u (merge_of ns.0)) (Ok (parent (merge_of ns.0) (row_of ns.0), ns.1)) (Err BadBox))
unfolding parent_at children_at
begun h count l u text rest some few is_l is_u there =
    let after = point l ++ (point u ++ (text ++ rest)) in
    let parts : number count ++ (point l ++ point u) ++ text ++ rest ≡ number count ++ after = simp append_assoc in
    let long : ltb (length after) (32 + 16 * count) ≡ false = le-ltb _ _ (omega (arith, there, point_long l is_l, point_long u is_u, length-append (point l) (point u ++ (text ++ rest)), length-append (point u) (text ++ rest))) in
    ap (parent_at (node_at h)) parts ∙ rw (number_again count after few, some_eqb count some, long, point_again l (point u ++ (text ++ rest)) is_l, point_again u (text ++ rest) is_u) refl

parent_again : (h : ℕ) → ReadsNodes h → (ns : List Tree) (rest : List ℕ) → 0 < length ns → length ns < 2 ^ 64 → AllByRecursion (IsStored h) ns
    → (parent_at (node_at h) (spelling (parent (merge_of ns) (row_of ns)) ++ rest) ≡ Ok (parent (merge_of ns) (row_of ns), rest)) × (16 ≤ length (spelling (parent (merge_of ns) (row_of ns))))
parent_again h one ns rest some few all =
    let m = merge_of ns in
    let text = joined (map spelling ns) in
    let spelled = spelling-parent m ns in
    let is = merge_corners h ns all in
    let below = each_again h one ns rest all in
    let each = below.1 in
    let there : 16 * length ns ≤ length (text ++ rest) = omega (arith, each, length-append text rest) in (
      ap (λ (t : List ℕ). parent_at (node_at h) (t ++ rest)) spelled ∙ begun h (length ns) (lowers m) (uppers m) text rest some few is.0 is.1 there
          ∙ rw below.0 (ap (λ (t : Bool). if t then Ok (parent m (row_of ns), rest) else Err BadBox) (self_corners m)),
      omega (arith, some, each, ap length spelled, length-append (number (length ns) ++ corners m) text),
    )

pub node_again : (h : ℕ) → ReadsNodes h
unfolding node_at leaf_at
node_again zero (leaf p) rest is = (rw (point_again p rest is) refl, let e = point_long p is in omega (arith, e))
node_again zero (parent b below) rest is = absurd is
node_again (suc h) (leaf p) rest is = absurd is
node_again (suc h) (parent b below) rest is =
    let same : parent (merge_of (nodes_in below)) (row_of (nodes_in below)) ≡ parent b below = ap₂ (λ (e : Box) (r : ShownRow Place Box). parent e r) (sym is.2) (row_nodes below) in
    subst (λ (t : Tree). (parent_at (node_at h) (spelling t ++ rest) ≡ Ok (t, rest)) × (16 ≤ length (spelling t))) same (parent_again h (node_again h) (nodes_in below) rest is.0 is.1 is.3)

-- ---- the answers on the way

pub root_other : (points count : ℕ) (t : Tree) (rest : List ℕ) → points ≢ count → (if points == count then ended t rest else Err BadCount) ≡ Err BadCount
root_other points count t rest other = rw (ne_eqb points count other) refl

pub root_trailing : (points count : ℕ) (t : Tree) (rest : List ℕ) → points ≡ count → 0 < length rest → (if points == count then ended t rest else Err BadCount) ≡ Err Trailing
root_trailing points count t [] same some = absurd (omega (arith, some))
root_trailing points count t (b ∷ rest) same some = rw (eq-eqb points count same) refl

pub root_done : (points count : ℕ) (t : Tree) (rest : List ℕ) → points ≡ count → length rest ≡ 0 → (if points == count then ended t rest else Err BadCount) ≡ Ok t
root_done points count t [] same none = rw (eq-eqb points count same) refl
root_done points count t (b ∷ rest) same none = absurd (omega (arith, none))

pub root_empty : (count : ℕ) (rest : List ℕ) → count ≡ 0 → length rest ≡ 0 → root_at 0 count rest ≡ Ok (parent boxes.empty end)
unfolding root_at
root_empty count rest none done = root_done count 0 (parent boxes.empty end) rest none done

-- what follows the number of points, by the number of levels
pub levels_read : (count : ℕ) (bytes rest : List ℕ) (h k : ℕ) → bytes ≡ h ∷ rest → h ≤ 64 → h ≡ k → levels_at count bytes ≡ root_at k count rest
unfolding levels_at
levels_read count bytes rest h k is low same = rw (is, le-ltb 64 h low) (ap (λ (n : ℕ). root_at n count rest) same)

pub gives_along : {X Y : Type 0} (view : X → Y) (r : Result X StoredError) (a b : Result Y StoredError) → a ≡ b → Gives view r b → Gives view r a
gives_along view r a b e g = subst (Gives view r) (sym e) g

-- ---- whole trees

pub begun_tree : (bytes : List ℕ) (count height : ℕ) (rest : List ℕ) → BeginsTree bytes count height rest → tree_at bytes ≡ levels_at count (height ∷ rest)
unfolding tree_at
begun_tree bytes count height rest b =
    let text = magic ++ number count ++ height ∷ rest in
    let long : ltb (length text) 4 ≡ false = le-ltb _ _ (omega arith) in
    ap tree_at b.parts ∙ rw (long, number_again count (height ∷ rest) b.counted) refl

root_reads : (h count : ℕ) (t : Tree) (rest : List ℕ) → IsStoredTree h t → root_at h count (root_spelling h t ++ rest) ≡ (if length (points_of t) == count then ended t rest else Err BadCount)
unfolding root_at
root_reads zero count t rest is =
    let turned : eqb count 0 ≡ eqb 0 count = elim (cases_eq count 0) [ inl e ↦ rw e refl | inr other ↦ ne_eqb count 0 other ∙ sym (ne_eqb 0 count (λ e. other (sym e))) ] in
    rw (is, turned) refl
root_reads (suc h) count t rest is = rw (node_again (suc h) t rest is).0 refl

-- bytes that begin with the spelling of a tree are read as far as its end
pub tree_reads : (bytes : List ℕ) (count height : ℕ) (t : Tree) (rest : List ℕ) → BeginsTree bytes count height (root_spelling height t ++ rest) → height ≤ 64 → IsStoredTree height t
    → tree_at bytes ≡ (if length (points_of t) == count then ended t rest else Err BadCount)
tree_reads bytes count height t rest b low is =
    begun_tree bytes count height (root_spelling height t ++ rest) b ∙ levels_read count (height ∷ (root_spelling height t ++ rest)) (root_spelling height t ++ rest) height height refl low refl ∙ root_reads height count t rest is

pub tree_again : (bytes : List ℕ) (t : Tree) → Spells bytes t → tree_at bytes ≡ Ok t
tree_again bytes t s =
    let n = length (points_of t) in
    let parts = s.spelled ∙ ap (λ (r : List ℕ). magic ++ number n ++ s.height ∷ r) (sym (append-nil (root_spelling s.height t))) in
    tree_reads bytes n s.height t [] (record { parts = parts; counted = s.counted }) s.low s.whole ∙ root_done n n t [] refl refl

-- no bytes spell two trees
pub one_tree : (bytes : List ℕ) (t u : Tree) → Spells bytes t → Spells bytes u → t ≡ u
one_tree bytes t u s r = ok_is t u (sym (tree_again bytes t s) ∙ tree_again bytes u r)

same_height : (h k : ℕ) (t : Tree) → IsStored h t → IsStored k t → h ≡ k
same_height zero zero t is also = refl
same_height zero (suc k) (leaf p) is also = absurd also
same_height zero (suc k) (parent b below) is also = absurd is
same_height (suc h) zero (leaf p) is also = absurd is
same_height (suc h) zero (parent b below) is also = absurd also
same_height (suc h) (suc k) (leaf p) is also = absurd is
same_height (suc h) (suc k) (parent b end) is also = absurd (omega (arith, is.0))
same_height (suc h) (suc k) (parent b (more n ns)) is also = ap suc (same_height h k n is.3.0 also.3.0)

none_stored : (k : ℕ) (t : Tree) → t ≡ parent boxes.empty end → IsStored (suc k) t → ⊥
none_stored k t e i = let some = subst (IsStored (suc k)) e i in absurd (omega (arith, some.0))

same_heights : (h k : ℕ) (t : Tree) → IsStoredTree h t → IsStoredTree k t → h ≡ k
same_heights zero zero t is also = refl
same_heights zero (suc k) t is also = absurd (none_stored k t is also)
same_heights (suc h) zero t is also = absurd (none_stored h t also is)
same_heights (suc h) (suc k) t is also = same_height (suc h) (suc k) t is also

-- no tree has two spellings
pub one_spelling : (a b : List ℕ) (t : Tree) → Spells a t → Spells b t → a ≡ b
one_spelling a b t s r =
    s.spelled ∙ ap (λ (h : ℕ). magic ++ number (length (points_of t)) ++ h ∷ root_spelling h t) (same_heights s.height r.height t s.whole r.whole) ∙ sym r.spelled
