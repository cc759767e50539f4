-- What is written of nodes, and that what is written of a whole tree spells it.
use Rattle.std.proofs.Common.{◌≡◌, ◌≢◌, ℕ, suc, ◌^◌, ◌<◌, ◌≤◌, List, [], ◌∷◌, ◌++◌, length, vec_len, refl, sym, ap, ap₂, subst, ◌∙◌, append_assoc, arith, ℤ, zero, ◌+◌, ◌-◌, min, Vec, vec_capacity, get_or, map, take, append-nil}
use Rattle.std.proofs.lemmas.List.{nil_from_length, take_all, map_push, length-map}
use Rattle.std.specs.List.{AllByRecursion}
use Rattle.std.specs.declared.alloc.Global.{Global}
use Rattle.std.specs.Int.{w64, to_le_bytes, cast_signed, cast_unsigned}
use Rattle.std.proofs.lemmas.Int.{to_z-of_z}
use Rattle.std.specs.Prelude.{slice_index_or, pos, sum_by}
use Rattle.std.proofs.lemmas.List.Sums.{sum_by-append, sum_by-take-drop}
use Rattle.std.proofs.lemmas.Simd.{map-map}
use Rattle.num_traits.specs.Ints.{signed-bounds}
use Rattle.rstar_base.specs.Hulls.{hull}
use Rattle.rstar_base.specs.Scalars.{InRange}
use Rattle.rstar_base.specs.Segments.{coordinate}
use Rattle.rstar_base.specs.Points.{IsPoint, table}
use Rattle.rstar_base.proofs.Lists.{all-append}
use Rattle.rstar.specs.declared.rtree.RTree.{RTree}
use Rattle.rstar.specs.Heights.{levels_below}
use Rattle.rstar.specs.Nodes.{IsElement, IsInner, children_of, all_elements, IsTree, joined, total}
use Rattle.rstar.specs.Shapes.{IsParentTree}
use Rattle.rstar.specs.Shown.{shown_root, leaf, shown}
use Rattle.rstar.specs.Stored.{Place, Box, Tree, boxes, places, magic, number, spelling, points_of, IsStored, Spells, low, high, point, corners, stored_size}
use Rattle.rstar.specs.Trees.{elements_in, IsWholeTree}
use Rattle.rstar.specs.declared.node.RTreeNode.{RTreeNode, Leaf, Parent}
use Rattle.rstar.specs.declared.node.ParentNode.{ParentNode}
use Rattle.rstar.specs.inside.Appends.{Appends}
use Rattle.rstar.proofs.trees.Heights.{levels_are}
use Rattle.rstar.proofs.storing.Laws.{root_points, root_shows_none, merge_same, point_laws, place_laws, spelling-parent, stored_parent}
use Rattle.rstar.proofs.joining.PairsByChildren.{folded-row}
use Rattle.rstar.proofs.lists.Items.{some_item, next_item, item_has}
use Rattle.rstar.proofs.trees.ByChildren.{total-map, shown-Leaf, shown-Parent, no_parent, no_leaf, parent_of}
use Rattle.rstar.proofs.trees.Trees.{merged_is_hull}
use Rattle.rstar.proofs.storing.Bytes.{two_of, coordinates_of, bytes_of, point_two}

module _ {D P S X : Type 0} (max : ℕ) (tree : RTree Place D Box P S X) where
  -- the points that a whole tree shows are its elements
  pub whole_points : IsWholeTree boxes places max tree → points_of (shown_root tree.root) ≡ elements_in tree
  whole_points whole = root_points tree.root

  pub empty_written : IsWholeTree boxes places max tree → vec_len tree.root.children ≡ 0 → (d : List ℕ) (count : ℕ) → d ≡ magic ++ number count ++ 0 ∷ [] → count ≡ length (elements_in tree)
      → Spells d (shown_root tree.root)
  unfolding IsWholeTree
  empty_written whole length_0 d count put counted =
      let none : children_of tree.root ≡ [] = nil_from_length tree.root.children.items (omega (arith, length_0, tree.root.children.ok.0)) in
      let tight : tree.root.envelope ≡ boxes.empty = whole.root_whole.tight ∙ ap (λ ns. hull boxes places.box_of (all_elements ns)) none in
      let zero_of : count ≡ 0 = counted ∙ ap (λ ns. length (all_elements ns)) none in
      subst (Spells d) (sym (root_shows_none tree.root none tight)) (record {
        height = 0;
        low = omega arith;
        whole = refl;
        counted = omega arith;
        spelled = put ∙ ap (λ (k : ℕ). magic ++ number k ++ 0 ∷ []) zero_of;
      })

  pub tree_written : IsWholeTree boxes places max tree → (vec_len tree.root.children ≡ 0 → ⊥) → (levels byte : ℕ) → levels ≡ levels_below (children_of tree.root) → levels ≤ 63 → byte ≡ suc levels
      → ((h : ℕ) → IsParentTree (IsInner boxes places) (IsElement boxes places) h tree.root → IsStored (suc h) (shown_root tree.root))
      → (d out : List ℕ) (count : ℕ) → d ≡ magic ++ number count ++ byte ∷ [] → out ≡ d ++ spelling (shown_root tree.root) → count ≡ length (elements_in tree) → count < 2 ^ 64
      → Spells out (shown_root tree.root)
  unfolding IsWholeTree
  tree_written whole full levels byte deep few up stored d out count put_d put_out counted fits =
      let h = whole.root_whole.height in
      let some : children_of tree.root ≢ [] = λ e. let none = ap length e in full (omega (arith, none, tree.root.children.ok.0)) in
      let deepness : levels ≡ h = deep ∙ levels_are (IsInner boxes places) (IsElement boxes places) (λ p q. q.1) h (children_of tree.root) some whole.root_whole.below in
      let points : length (points_of (shown_root tree.root)) ≡ count = ap length (root_points tree.root) ∙ sym counted in
      record {
        height = suc levels;
        low = omega (arith, few);
        whole = subst (λ (k : ℕ). IsStored (suc k) (shown_root tree.root)) (sym deepness) (stored h ((whole.root_whole.tight, some), whole.root_whole.below));
        counted = omega (arith, points, fits);
        spelled = put_out ∙ ap (λ t. t ++ spelling (shown_root tree.root)) put_d
            ∙ append_assoc (magic ++ number count) (byte ∷ []) (spelling (shown_root tree.root))
            ∙ ap₂ (λ (n k : ℕ). magic ++ number n ++ k ∷ spelling (shown_root tree.root)) (sym points) up;
      }

-- what stands before the children of a parent
abbrev pub head_of : ℕ → Box → List ℕ
head_of count b = number count ++ corners b

-- what the children are written as
abbrev pub spellings : List (RTreeNode Place Box) → List ℕ
spellings ns = joined (map spelling (map shown ns))

all_taken : {A : Type 0} (ns items : List A) (k : ℕ) → items ≡ ns → length items ≤ k → take k ns ≡ ns
all_taken ns items k same ended = let all : length ns ≤ k = rw same at ended in take_all k ns all

-- ---- the head

-- the bytes of a coordinate that was read from memory
coordinate_put : (z : ℤ) → InRange low high z → number (cast_unsigned w64 (cast_signed w64 (cast_unsigned w64 z))) ≡ bytes_of z
coordinate_put z r = ap (λ (u : ℤ). number (cast_unsigned w64 u)) (to_z-of_z w64 z ((signed-bounds w64 z).1 (r.above, r.below)))

abbrev pub put_again : ℤ → List ℕ
put_again z = number (cast_unsigned w64 (cast_signed w64 (cast_unsigned w64 z)))

-- a point of two coordinates, one after the other
pub two_put : (p : Place) (start middle out : List ℕ) → IsPoint low high 2 p → middle ≡ start ++ put_again (slice_index_or p 0 (pos 0)) → out ≡ middle ++ put_again (slice_index_or p 1 (pos 0)) → out ≡ start ++ point p
two_put p start middle out is a b =
    let (x, y, two, in_x, in_y) = coordinates_of p is in
    let first : middle ≡ start ++ bytes_of x = (rw two at a) ∙ ap (λ t. start ++ t) (coordinate_put x in_x) in
    let second : out ≡ middle ++ bytes_of y = (rw two at b) ∙ ap (λ t. middle ++ t) (coordinate_put y in_y) in
    rw (two, point_two x y, second, first) (append_assoc start (bytes_of x) (bytes_of y))

pub number_is : (n : ℕ) → to_le_bytes w64 n ≡ number n
unfolding number
number_is n = refl

table_two : (p : Place) → length p ≡ 2 → table 2 (coordinate p) ≡ p
table_two p long = rw (two_of p long).2 refl

pub place_is : (p : Place) → length p ≡ 2 → IsPoint low high 2 (table 2 (coordinate p)) → IsPoint low high 2 p
place_is p long is = subst (IsPoint low high 2) (table_two p long) is

-- the magic, the number of points and the height, one after another
pub front_put : (start a b d : List ℕ) (count height : ℕ) → start ≡ [] → a ≡ start ++ magic → b ≡ a ++ number count → d ≡ b ++ height ∷ [] → d ≡ magic ++ number count ++ height ∷ []
front_put start a b d count height none put_a put_b put_d = put_d ∙ ap (λ t. t ++ height ∷ []) (put_b ∙ ap (λ t. t ++ number count) (put_a ∙ ap (λ t. t ++ magic) none))

-- the number of children and the corners, one after another
pub head_put : (start a b d : List ℕ) (count : ℕ) (e : Box) (lower upper : Place) → length lower ≡ 2 → length upper ≡ 2
    → table 2 (coordinate lower) ≡ map (λ x. x.0) e → table 2 (coordinate upper) ≡ map (λ x. x.1) e
    → a ≡ start ++ number count → b ≡ a ++ point lower → d ≡ b ++ point upper → d ≡ (start ++ head_of count e) ++ []
head_put start a b d count e lower upper long_l long_u is_l is_u put_a put_b put_d =
    let l : lower ≡ map (λ x. x.0) e = sym (table_two lower long_l) ∙ is_l in
    let u : upper ≡ map (λ x. x.1) e = sym (table_two upper long_u) ∙ is_u in
    rw (put_d, put_b, put_a, l, u) (simp (append_assoc, append-nil))

-- ---- a node

pub leaf_shown : (n : RTreeNode Place Box) (p : Place) → n ≡ Leaf p → shown n ≡ leaf p
leaf_shown n p is = ap shown is ∙ shown-Leaf Place Box p

pub root_shown : (n : RTreeNode Place Box) (p : ParentNode Place Box) → n ≡ Parent p → shown n ≡ shown_root p
root_shown n p is = ap shown is ∙ shown-Parent p

pub leaf_stored : (h : ℕ) (n : RTreeNode Place Box) (p : Place) → n ≡ Leaf p → IsPoint low high 2 p → IsTree (IsInner boxes places) (IsElement boxes places) h n → IsStored h (shown n)
leaf_stored zero n p is place w = subst (IsStored 0) (sym (leaf_shown n p is)) place
leaf_stored (suc h) n p is place w = absurd (no_parent _ p (subst (IsTree (IsInner boxes places) (IsElement boxes places) (suc h)) is w))

pub parent_stored : (h : ℕ) (n : RTreeNode Place Box) (p : ParentNode Place Box) → n ≡ Parent p → ((k : ℕ) → IsParentTree (IsInner boxes places) (IsElement boxes places) k p → IsStored (suc k) (shown_root p)) → IsTree (IsInner boxes places) (IsElement boxes places) h n → IsStored h (shown n)
parent_stored zero n p is one w = absurd (no_leaf _ p (subst (IsTree (IsInner boxes places) (IsElement boxes places) 0) is w))
parent_stored (suc h) n p is one w = subst (IsStored (suc h)) (sym (root_shown n p is)) (one h (parent_of _ p (subst (IsTree (IsInner boxes places) (IsElement boxes places) (suc h)) is w)))

-- the bytes that a node takes
abbrev pub size_of : RTreeNode Place Box → ℕ
size_of n = stored_size (shown n)

-- ---- the children so far, and one more

spellings-push : (ns : List (RTreeNode Place Box)) (n : RTreeNode Place Box) → spellings (ns ++ n ∷ []) ≡ spellings ns ++ spelling (shown n)
spellings-push [] n = append-nil (spelling (shown n))
spellings-push (m ∷ ns) n = ap (λ t. spelling (shown m) ++ t) (spellings-push ns n) ∙ sym (append_assoc (spelling (shown m)) (spellings ns) (spelling (shown n)))

-- the head of a parent and its first k children were put at the end of a list
pub record AreWritten (p : ParentNode Place Box) (k : ℕ) (start out : Vec ℕ Global) : Type 0 where
  pub spelled : out.items ≡ (start.items ++ head_of (length (children_of p)) p.envelope) ++ spellings (take k (children_of p))
  pub len : vec_len out ≡ vec_len start + (40 + sum_by size_of (take k (children_of p)))
  pub capacity : vec_capacity out ≡ vec_capacity start
  pub stored : (h : ℕ) → IsParentTree (IsInner boxes places) (IsElement boxes places) h p → AllByRecursion (IsStored h) (map shown (take k (children_of p)))

module _ (ns : List (RTreeNode Place Box)) {items : List (RTreeNode Place Box)} {k : ℕ} {n : RTreeNode Place Box} (same : items ≡ ns) (below : k < length items) (is : n ≡ get_or items k n) where
  sum_more : sum_by size_of (take (k + 1) ns) ≡ sum_by size_of (take k ns) + size_of n
  sum_more =
      omega (arith, ap (sum_by size_of) (next_item ns items k n same below is), sum_by-append size_of (take k ns) (n ∷ []))

  -- the sizes so far, and one more
  pub size_more : (size one new : ℕ) → size ≡ min (40 + sum_by size_of (take k ns)) (2 ^ 64 - 1) → one ≡ min (size_of n) (2 ^ 64 - 1) → new ≡ min (size + one) (2 ^ 64 - 1) → new ≡ min (40 + sum_by size_of (take (k + 1) ns)) (2 ^ 64 - 1)
  size_more size one new so_far this next = omega (arith, sum_more)

pub parent_size : (p : ParentNode Place Box) → stored_size (shown_root p) ≡ 40 + sum_by size_of (children_of p)
parent_size p = ap (λ below. 40 + total below) (folded-row (λ t. 16) (λ e below. 40 + total below) (map shown (children_of p))) ∙ ap (λ k. 40 + k) (ap total (map-map stored_size shown (children_of p)) ∙ total-map size_of (children_of p))

-- a child takes fewer bytes than its parent
pub shorter : (p : ParentNode Place Box) {items : List (RTreeNode Place Box)} {k : ℕ} {n : RTreeNode Place Box} → items ≡ children_of p → k < length items → n ≡ get_or items k n → size_of n < stored_size (shown_root p)
shorter p {k = k} same below is = omega (arith, sum_more (children_of p) same below is, sum_by-take-drop size_of (children_of p) (k + 1), parent_size p)

module _ {p : ParentNode Place Box} {items : List (RTreeNode Place Box)} {k : ℕ} {n : RTreeNode Place Box} {start out : Vec ℕ Global} (same : items ≡ children_of p) (below : k < length items) (is : n ≡ get_or items k n) (so_far : AreWritten p k start out) where
  pub written_more : (new : Vec ℕ Global) {s : Tree} → shown n ≡ s → Appends (spelling s) (stored_size s) out new → ((h : ℕ) → IsTree (IsInner boxes places) (IsElement boxes places) h n → IsStored h (shown n)) → AreWritten p (k + 1) start new
  written_more new shows put one =
      let cs = children_of p in
      let next = next_item cs items k n same below is in
      let more : spellings (take (k + 1) cs) ≡ spellings (take k cs) ++ spelling (shown n) = ap spellings next ∙ spellings-push (take k cs) n in
      record {
        spelled = put.items ∙ ap (λ s. out.items ++ spelling s) (sym shows) ∙ ap (λ t. t ++ spelling (shown n)) so_far.spelled ∙ append_assoc (start.items ++ head_of (length cs) p.envelope) (spellings (take k cs)) (spelling (shown n))
            ∙ ap (λ t. (start.items ++ head_of (length cs) p.envelope) ++ t) (sym more);
        len = omega (arith, sum_more cs same below is, so_far.len, put.len, ap stored_size shows);
        capacity = put.capacity ∙ so_far.capacity;
        stored = λ h w. rw (next, map_push shown (take k cs) n)
            (all-append (IsStored h) (map shown (take k cs)) (shown n ∷ []) (so_far.stored h w) (one h (item_has (IsTree (IsInner boxes places) (IsElement boxes places) h) cs items k n same below is w.1), tt));
      }

  -- there is room for it
  pub room_more : vec_len start + stored_size (shown_root p) ≤ vec_capacity start → vec_len out + size_of n ≤ vec_capacity out
  room_more room = omega (arith, sum_more (children_of p) same below is, sum_by-take-drop size_of (children_of p) (k + 1), parent_size p, so_far.len, so_far.capacity, room)

-- ---- a parent, once all its children are there

module _ (p : ParentNode Place Box) (items : List (RTreeNode Place Box)) (k : ℕ) (same : items ≡ children_of p) (ended : length items ≤ k) where
  pub whole_spelled : (start out : List ℕ) → out ≡ (start ++ head_of (length (children_of p)) p.envelope) ++ spellings (take k (children_of p)) → out ≡ start ++ spelling (shown_root p)
  whole_spelled start out so_far =
      so_far ∙ ap (λ ns. (start ++ head_of (length (children_of p)) p.envelope) ++ spellings ns) (all_taken (children_of p) items k same ended)
      ∙ append_assoc start (head_of (length (children_of p)) p.envelope) (spellings (children_of p))
      ∙ ap (λ t. start ++ t) (ap (λ m. head_of m p.envelope ++ spellings (children_of p)) (sym (length-map (children_of p) shown)) ∙ sym (spelling-parent p.envelope (map shown (children_of p))))

  pub whole_stored : (h : ℕ) → IsParentTree (IsInner boxes places) (IsElement boxes places) h p → AllByRecursion (IsStored h) (map shown (take k (children_of p))) → IsStored (suc h) (shown_root p)
  whole_stored h w so_far =
      let cs = children_of p in
      let long = length-map cs shown in
      let some = some_item cs w.0.1 in
      let few = p.children.ok.0 in
      stored_parent h p.envelope (map shown cs) (omega (arith, some, long)) (omega (arith, few, long)) (w.0.0 ∙ sym (merged_is_hull point_laws place_laws h cs w.1) ∙ sym (merge_same boxes places.box_of cs))
      (subst (λ ns. AllByRecursion (IsStored h) (map shown ns)) (all_taken cs items k same ended) so_far)

  pub whole_size : 40 + sum_by size_of (take k (children_of p)) ≡ stored_size (shown_root p)
  whole_size = ap (λ ns. 40 + sum_by size_of ns) (all_taken (children_of p) items k same ended) ∙ sym (parent_size p)
