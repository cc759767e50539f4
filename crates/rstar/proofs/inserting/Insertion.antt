-- What an insertion does to the lists of a tree, and to the parents whose lists have room; what its steps spend together.
use Rattle.std.proofs.Common.{◌≡◌, ℕ, ℤ, zero, suc, ◌+◌, ◌-◌, ◌<◌, ◌≤◌, List, [], ◌∷◌, ◌++◌, length, get_or, set, refl, sym, ap, ◌∙◌, subst, arith, append_assoc, append-nil, add-one, IsPermutation, Option, Some, None, IfSome, if◌then◌else◌, nat_le, Vec, vec_len, vec_capacity, ◌*◌, max}
use Rattle.std.proofs.lemmas.Bool.Decides.{nat_tests}
use Rattle.std.proofs.lemmas.List.Concat.{flat_map-append}
use Rattle.std.proofs.lemmas.List.Sums.{sum_by-cons, sum_by-append, sum_by-set}
use Rattle.std.proofs.lemmas.List.Sorted.{sum_by-IsPermutation, IsPermutation-refl, IsPermutation-trans, IsPermutation-sym, IsPermutation-append_left, IsPermutation-append_right, IsPermutation-append_comm, IsPermutation-middle, IsPermutation-to_front}
use Rattle.std.specs.List.{AllByRecursion}
use Rattle.std.specs.declared.alloc.Global.{Global}
use Rattle.std.proofs.Math.Nat.{le_refl}
use Rattle.std.proofs.lemmas.Nat.{mul-le}
use Rattle.rstar_base.specs.Envelopes.{Boxes, EnvelopeLaws}
use Rattle.rstar_base.specs.Elements.{Objects, ObjectLaws}
use Rattle.rstar_base.specs.Hulls.{hull}
use Rattle.rstar_base.proofs.Along.{IsPermutation-flat_map}
use Rattle.rstar_base.proofs.Lists.{all-append, all_first, all_second, all_along, all_map}
use Rattle.rstar_base.proofs.Hulls.{hull-value, hull-append, hull_along}
use Rattle.rstar.specs.declared.node.RTreeNode.{RTreeNode, Leaf, Parent}
use Rattle.rstar.specs.declared.node.ParentNode.{ParentNode}
use Rattle.rstar.specs.Nodes.{elements, all_elements, node_box, IsLeafOf, IsTree, IsElement, AreWhole}
use Rattle.rstar.specs.Shapes.{AreTrees, IsParentTree, IsAny, HasSize, AreSized, IsSizedTree}
use Rattle.rstar.specs.inside.ParentBounds.{IsKeptInner, HasMergedBox, AreKept, IsKeptTree, CanTakeIn, AddsChild, GoesIn, second_children, as_node, IsSizedAfter, has_room, roomy, all_roomy, roomy_of, second_roomy, IsSpare}
use Rattle.rstar.specs.Heights.{spare_lists}
use Rattle.rstar.specs.declared.algorithm.rstar.preparation.Reserve.{Reserve}
use Rattle.rstar.specs.inside.Reserves.{IsReady, Spends}
use Rattle.rstar.proofs.lists.Items.{all_set, all_get}
use Rattle.rstar.proofs.trees.ByChildren.{elements-Leaf, elements-Parent, of_parent-Parent, is_leaf, is_parent, parent_of, IsLeafOf-Leaf, IsParentOf-Parent}
use Rattle.rstar.proofs.trees.Trees.{all_sound, values-of, merged_is_hull}

-- what holds of all items holds of the last, and of those before it
pub all_last : {A : Type 0} (P : A → Type 0) (all rest : List A) (x : A) → all ≡ rest ++ x ∷ [] → AllByRecursion P all → AllByRecursion P rest × P x
all_last P all rest x is holds = let parts = rw is at holds in (all_first P rest (x ∷ []) parts, (all_second P rest (x ∷ []) parts).0)

level_below : (h : ℕ) → 0 < h → h ≡ suc (h - 1)
level_below h above = omega arith

-- ---- elements

module _ {T E : Type 0} where
  pub all_elements-append : (xs ys : List (RTreeNode T E)) → all_elements (xs ++ ys) ≡ all_elements xs ++ all_elements ys
  all_elements-append xs ys = flat_map-append elements xs ys

  pub all_elements-single : (n : RTreeNode T E) → all_elements (n ∷ []) ≡ elements n
  all_elements-single n = append-nil (elements n)

  elements_put : (ns : List (RTreeNode T E)) (t : T) → all_elements (ns ++ Leaf t ∷ []) ≡ all_elements ns ++ t ∷ []
  elements_put ns t = all_elements-append ns (Leaf t ∷ []) ∙ ap (λ (ts : List T). all_elements ns ++ ts) (all_elements-single (Leaf t) ∙ elements-Leaf T E t)

  -- the elements below two parents, as a list of two nodes
  pub two_parents : (a b : ParentNode T E) → all_elements (Parent a ∷ Parent b ∷ []) ≡ all_elements a.children.items ++ all_elements b.children.items
  two_parents a b = rw (elements-Parent a, elements-Parent b, append-nil (all_elements b.children.items))

  -- the lists of two parents that may be there
  same_list : (r : Option (ParentNode T E)) → all_elements (as_node r) ≡ all_elements (second_children r)
  same_list None = refl
  same_list (Some q) = all_elements-single (Parent q) ∙ elements-Parent q

  -- one node of a list gets an element more, and hands out others
  bag_of_set : (t : T) (ns : List (RTreeNode T E)) (i : ℕ) (d m : RTreeNode T E) (out : List T) → i < length ns
      → IsPermutation (t ∷ elements (get_or ns i d)) (elements m ++ out)
      → IsPermutation (t ∷ all_elements ns) (all_elements (set ns i m) ++ out)
  bag_of_set t [] i d m out below h = absurd (omega arith)
  bag_of_set t (n ∷ ns) zero d m out below h =
      let rest : List T = all_elements ns in
      IsPermutation-trans _ _ _ (IsPermutation-append_left rest (t ∷ elements n) (elements m ++ out) h)
      (rw (append_assoc (elements m) out rest, append_assoc (elements m) rest out) (IsPermutation-append_right (elements m) _ _ (IsPermutation-append_comm out rest)))
  bag_of_set t (n ∷ ns) (suc i) d m out below h =
      let rest = bag_of_set t ns i d m out (omega arith) h in
      IsPermutation-trans _ _ _ (IsPermutation-sym _ _ (IsPermutation-middle (elements n) t (all_elements ns)))
      (rw (append_assoc (elements n) (all_elements (set ns i m)) out) (IsPermutation-append_right (elements n) _ _ rest))

  -- the last leaf of a list leaves it and goes into the tree
  pub taken_again : (start : List T) (handed rest : List (RTreeNode T E)) (t : T) (old new : List T) → handed ≡ rest ++ Leaf t ∷ []
      → IsPermutation start (old ++ all_elements handed) → IsPermutation (t ∷ old) new → IsPermutation start (new ++ all_elements rest)
  taken_again start handed rest t old new is before step =
      IsPermutation-trans start _ _ (rw (is, elements_put rest t, ← append_assoc old (all_elements rest) (t ∷ [])) at before)
      (IsPermutation-trans _ _ _ (IsPermutation-to_front (old ++ all_elements rest) t) (IsPermutation-append_left (all_elements rest) (t ∷ old) new step))

module _ {T E : Type 0} (t : T) (old : List (RTreeNode T E)) (i : ℕ) (a b : ParentNode T E) (below : i < length old) (is : Parent a ≡ get_or old i (Parent a)) where
  -- a child took an element in, and handed others out
  child_bag : (out : List T) → IsPermutation (t ∷ all_elements a.children.items) (all_elements b.children.items ++ out) → IsPermutation (t ∷ all_elements old) (all_elements (set old i (Parent b)) ++ out)
  child_bag out bag = bag_of_set t old i (Parent a) (Parent b) out below (rw (← is, elements-Parent a, elements-Parent b) bag)

  -- the same, where another parent was cut off it
  cut_bag : (r : Option (ParentNode T E)) (out : List T) → IsPermutation (t ∷ all_elements a.children.items) (all_elements (b.children.items ++ second_children r) ++ out)
      → IsPermutation (t ∷ all_elements old) (all_elements (set old i (Parent b) ++ as_node r) ++ out)
  cut_bag r out bag =
      let parts : IsPermutation (t ∷ all_elements a.children.items) (all_elements b.children.items ++ (all_elements (as_node r) ++ out)) =
      rw (same_list r, ← append_assoc (all_elements b.children.items) (all_elements (second_children r)) out, ← all_elements-append b.children.items (second_children r)) bag in
      rw (all_elements-append (set old i (Parent b)) (as_node r), append_assoc (all_elements (set old i (Parent b))) (all_elements (as_node r)) out) (child_bag (all_elements (as_node r) ++ out) parts)

-- ---- how many lists have room

module _ {A : Type 0} (count : ℕ) where
  pub room_one : (v : Vec A Global) → count ≤ vec_capacity v → has_room count v ≡ 1
  room_one v le = grind (arith, nat_tests)

  pub room_none : (v : Vec A Global) → vec_capacity v < count → has_room count v ≡ 0
  room_none v lt = grind (arith, nat_tests)

  pub room_same : (v w : Vec A Global) → vec_capacity v ≡ vec_capacity w → has_room count v ≡ has_room count w
  room_same v w e = ap (λ n. if nat_le count n then 1 else 0) e

  -- a list that holds no less has room where the other has
  pub room_more : (v w : Vec A Global) → vec_capacity v ≤ vec_capacity w → has_room count v ≤ has_room count w
  room_more v w le = grind (arith, nat_tests)

module _ {T E : Type 0} (count : ℕ) where
  roomy-Parent : (h : ℕ) (p : ParentNode T E) → 0 < h → roomy count h (Parent p) ≡ roomy_of count (h - 1) p
  roomy-Parent h p above = ap (λ n. roomy count n (Parent p)) (level_below h above) ∙ of_parent-Parent _ p

  -- leaves are no parents
  pub none_roomy : (h : ℕ) (ns : List (RTreeNode T E)) → h ≡ 0 → all_roomy count h ns ≡ 0
  none_roomy h [] low = refl
  none_roomy h (n ∷ ns) low = let here : roomy count h n ≡ 0 = rw low in omega (arith, here, sum_by-cons (roomy count h) n ns, none_roomy h ns low)

  -- a parent that may be there, in a list
  second_node : (h : ℕ) (r : Option (ParentNode T E)) → 0 < h → all_roomy count h (as_node r) ≡ second_roomy count (h - 1) r
  second_node h None above = refl
  second_node h (Some q) above = omega (arith, sum_by-cons (roomy count h) (Parent q) [], roomy-Parent h q above)

  -- a parent that may be there, with room in its list
  second_room : (widest h : ℕ) (r : Option (ParentNode T E)) → count ≤ widest → IfSome r (λ q. widest ≤ vec_capacity q.children) → second_roomy count h r ≡ length (as_node r) + all_roomy count h (second_children r)
  second_room widest h None few room = refl
  second_room widest h (Some q) few room = omega (arith, room_one count q.children (omega (arith, few, room)))

  -- two parents
  pub two_roomy : (h : ℕ) (a b : ParentNode T E) → all_roomy count (h + 1) (Parent a ∷ Parent b ∷ []) ≡ roomy_of count h a + roomy_of count h b
  two_roomy h a b = rw add-one (omega (
    arith,
    sum_by-cons (roomy count (suc h)) (Parent a) (Parent b ∷ []),
    sum_by-cons (roomy count (suc h)) (Parent b) [],
    of_parent-Parent (roomy_of count h) a,
    of_parent-Parent (roomy_of count h) b,
  ))

  -- a parent and what was cut off it, told of all their children
  pub parts_roomy : (widest h : ℕ) (all : List (RTreeNode T E)) (p : ParentNode T E) (r : Option (ParentNode T E)) → count ≤ widest → IsPermutation all (p.children.items ++ second_children r) → IfSome r (λ q. widest ≤ vec_capacity q.children)
      → roomy_of count h p + second_roomy count h r ≡ has_room count p.children + length (as_node r) + all_roomy count h all
  parts_roomy widest h all p r few same room = omega (
    arith,
    second_room widest h r few room,
    sum_by-IsPermutation (roomy count h) all (p.children.items ++ second_children r) same,
    sum_by-append (roomy count h) p.children.items (second_children r),
  )

  -- a child that became another parent and what was cut off it
  pub child_roomy : (h : ℕ) (old : List (RTreeNode T E)) (i : ℕ) (a b : ParentNode T E) (r : Option (ParentNode T E)) → 0 < h → i < length old → Parent a ≡ get_or old i (Parent a)
      → all_roomy count h (set old i (Parent b) ++ as_node r) + roomy_of count (h - 1) a ≡ all_roomy count h old + roomy_of count (h - 1) b + second_roomy count (h - 1) r
  child_roomy h old i a b r above below is = omega (
    arith,
    sum_by-set (roomy count h) old i (Parent b) (Parent a) below,
    ap (roomy count h) (sym is),
    roomy-Parent h a above,
    roomy-Parent h b above,
    second_node h r above,
    sum_by-append (roomy count h) (set old i (Parent b)) (as_node r),
  )

-- ---- trees

module _ {T E : Type 0} (Q : ParentNode T E → Type 0) (R : T → Type 0) where
  pub tree_of : (h : ℕ) (p : ParentNode T E) → 0 < h → Q p → AreTrees Q R (h - 1) p.children.items → IsTree Q R h (Parent p)
  tree_of h p above q all = rw (level_below h above) (IsParentOf-Parent _ p (q, all))

  pub leaf_tree : (h : ℕ) (t : T) → h ≡ 0 → R t → IsTree Q R h (Leaf t)
  leaf_tree h t low r = rw low (IsLeafOf-Leaf T E R t r)

  -- the child at an index
  child_at : (h : ℕ) (ns : List (RTreeNode T E)) (i : ℕ) (n : RTreeNode T E) → 0 < h → i < length ns → n ≡ get_or ns i n → AreTrees Q R h ns → IsTree Q R (suc (h - 1)) n
  child_at h ns i n above below is trees = let here : IsTree Q R h n = rw is (all_get (IsTree Q R h) ns i n below trees) in rw (level_below h above) at here

  pub parent_at : (h : ℕ) (ns : List (RTreeNode T E)) (i : ℕ) (p : ParentNode T E) → 0 < h → i < length ns → Parent p ≡ get_or ns i (Parent p) → AreTrees Q R h ns → IsParentTree Q R (h - 1) p
  parent_at h ns i p above below is trees = parent_of _ p (child_at h ns i (Parent p) above below is trees)

  -- that child is a parent
  pub is_parent_at : (h : ℕ) (ns : List (RTreeNode T E)) (i : ℕ) (n : RTreeNode T E) → 0 < h → i < length ns → n ≡ get_or ns i n → AreTrees Q R h ns → (p : ParentNode T E) × (n ≡ Parent p)
  is_parent_at h ns i n above below is trees = let p = is_parent _ n (child_at h ns i n above below is trees) in (p.0, p.1)

  -- the two parts of a list
  pub parts_of : (h : ℕ) (all xs ys : List (RTreeNode T E)) → IsPermutation all (xs ++ ys) → AreTrees Q R h all → AreTrees Q R h xs × AreTrees Q R h ys
  parts_of h all xs ys same trees =
      let parts = all_along (IsTree Q R h) all (xs ++ ys) same trees in
      (all_first (IsTree Q R h) xs ys parts, all_second (IsTree Q R h) xs ys parts)

  -- a leaf at the end of a list of leaves
  pub leaf_put : (h : ℕ) (t : T) (old : List (RTreeNode T E)) → h ≡ 0 → R t → AreTrees Q R h old → AreTrees Q R h (old ++ Leaf t ∷ [])
  leaf_put h t old low r trees = all-append (IsTree Q R h) old (Leaf t ∷ []) trees (leaf_tree h t low r, tt)

  -- a child that became another parent, and what was cut off it
  pub child_set : (h : ℕ) (old : List (RTreeNode T E)) (i : ℕ) (b : ParentNode T E) → 0 < h → AreTrees Q R h old → IsParentTree Q R (h - 1) b → AreTrees Q R h (set old i (Parent b))
  child_set h old i b above trees new = all_set (IsTree Q R h) old i (Parent b) trees (tree_of h b above new.0 new.1)

  pub child_put : (h : ℕ) (old : List (RTreeNode T E)) (i : ℕ) (b : ParentNode T E) (r : Option (ParentNode T E)) → 0 < h → AreTrees Q R h old
      → IsParentTree Q R (h - 1) b → IfSome r (IsParentTree Q R (h - 1)) → AreTrees Q R h (set old i (Parent b) ++ as_node r)
  child_put h old i b None above trees new cut = rw append-nil (child_set h old i b above trees new)
  child_put h old i b (Some q) above trees new cut = all-append (IsTree Q R h) (set old i (Parent b)) (Parent q ∷ []) (child_set h old i b above trees new) (tree_of h q above cut.0 cut.1, tt)

  -- the children of a new root
  pub two_trees : (h : ℕ) (a b : ParentNode T E) → IsParentTree Q R h a → IsParentTree Q R h b → AreTrees Q R (h + 1) (Parent a ∷ Parent b ∷ [])
  two_trees h a b first second = rw add-one (IsParentOf-Parent _ a first, (IsParentOf-Parent _ b second, tt))

-- trees whose parents and elements meet more
module _ {T E : Type 0} {Q Q' : ParentNode T E → Type 0} {R R' : T → Type 0} (f : (p : ParentNode T E) → Q p → Q' p) (g : (t : T) → R t → R' t) where
  tree_map : (h : ℕ) (n : RTreeNode T E) → IsTree Q R h n → IsTree Q' R' h n
  tree_map zero n w = let l = is_leaf R n w in subst (IsTree Q' R' 0) (sym l.1) (IsLeafOf-Leaf T E R' l.0 (g l.0 l.2))
  tree_map (suc h) n w =
      let p = is_parent _ n w in
      subst (IsTree Q' R' (suc h)) (sym p.1) (IsParentOf-Parent _ p.0 (f p.0 p.2.0, all_map (IsTree Q R h) (IsTree Q' R' h) (tree_map h) p.0.children.items p.2.1))

  pub trees_map : (h : ℕ) (ns : List (RTreeNode T E)) → AreTrees Q R h ns → AreTrees Q' R' h ns
  trees_map h = all_map (IsTree Q R h) (IsTree Q' R' h) (tree_map h)

-- ---- kept trees

-- the last of some leaves
pub leaf_taken : {T E : Type 0} (v : Boxes E) (o : Objects T E) (widest : ℕ) (handed rest : List (RTreeNode T E)) (n : RTreeNode T E) → handed ≡ rest ++ n ∷ [] → AreKept v o widest 0 handed
    → AreKept v o widest 0 rest × IsLeafOf (IsElement v o) n
leaf_taken v o widest = all_last (IsTree (IsKeptInner v o widest) (IsElement v o) 0)

-- a parent of as many children as before
pub still_kept : {T E : Type 0} (v : Boxes E) (o : Objects T E) (widest h : ℕ) (p q : ParentNode T E) → length p.children.items ≤ widest → 0 < vec_len p.children → vec_len q.children ≡ vec_len p.children
    → q.envelope ≡ hull v o.box_of (all_elements q.children.items) → AreKept v o widest h q.children.items → IsKeptTree v o widest h q
still_kept v o widest h p q narrow some long tight below =
    ((record { tight = tight; narrow = omega (arith, p.children.ok.0, q.children.ok.0) }, omega (arith, q.children.ok.0)), below)

module _ {T E : Type 0} {IsPoint : List ℤ → Type 0} {v : Boxes E} {o : Objects T E} (laws : EnvelopeLaws IsPoint v) (ok : ObjectLaws v o) (widest : ℕ) where
  -- kept trees are whole
  pub whole_of_kept : (h : ℕ) (ns : List (RTreeNode T E)) → AreKept v o widest h ns → AreWhole v o h ns
  whole_of_kept = trees_map (λ p k. (k.0.tight, λ none. absurd (omega (arith, ap length none, k.1)))) (λ t k. k)

  kept_values : (h : ℕ) (ns : List (RTreeNode T E)) → AreKept v o widest h ns → AllByRecursion (λ t. v.IsValue (o.box_of t)) (all_elements ns)
  kept_values h ns kept = values-of laws ok (all_elements ns) (all_sound v o h ns (whole_of_kept h ns kept))

  -- an envelope that was made from the children is the merge of the elements'
  pub made_anew : (h : ℕ) (new : List (RTreeNode T E)) (e : E) → AreKept v o widest h new → e ≡ hull v (node_box o.box_of) new → e ≡ hull v o.box_of (all_elements new)
  made_anew h new e trees is = is ∙ merged_is_hull laws ok h new (whole_of_kept h new trees)

  pub inner_of_fit : (h : ℕ) (p : ParentNode T E) → AreKept v o widest h p.children.items → HasMergedBox v o widest p → IsKeptInner v o widest p
  inner_of_fit h p trees fit = (record { tight = made_anew h p.children.items p.envelope trees fit.merged; narrow = fit.narrow }, fit.some)

  -- what is kept of a list of children, after it was parted
  pub parted : (h : ℕ) (t : T) (old before out : List (RTreeNode T E)) (p : ParentNode T E) → IsPermutation (t ∷ all_elements old) (all_elements before) → AreKept v o widest h before
      → IsPermutation before (p.children.items ++ out) → HasMergedBox v o widest p
      → IsPermutation (t ∷ all_elements old) (all_elements (p.children.items ++ out)) × IsKeptTree v o widest h p × AreKept v o widest h out
  parted h t old before out p bag trees same fit =
      let parts = parts_of (IsKeptInner v o widest) (IsElement v o) h before p.children.items out same trees in
      (IsPermutation-trans _ _ _ bag (IsPermutation-flat_map elements before (p.children.items ++ out) same), (inner_of_fit h p parts.0 fit, parts.0), parts.1)

  -- a parent that was cut off
  pub cut_kept : (h : ℕ) (r : Option (ParentNode T E)) → AreKept v o widest h (second_children r) → IfSome r (HasMergedBox v o widest) → IfSome r (IsKeptTree v o widest h)
  cut_kept h None trees fit = tt
  cut_kept h (Some q) trees fit = (inner_of_fit h q trees fit, trees)

  -- a root above two parents is a tree of one level more
  pub root_grown : (h : ℕ) (a b p : ParentNode T E) → IsKeptTree v o widest h a → IsKeptTree v o widest h b
      → p.children.items ≡ Parent a ∷ Parent b ∷ [] → p.envelope ≡ v.merge a.envelope b.envelope → 2 ≤ widest
      → IsKeptTree v o widest (h + 1) p
  root_grown h a b p first second are is wide =
      let both = hull-append laws o.box_of (all_elements a.children.items) (all_elements b.children.items) (kept_values h a.children.items first.1) (kept_values h b.children.items second.1) in (
        (
          record {
            tight = is ∙ sym (rw (← first.0.0.tight, ← second.0.0.tight) at both) ∙ ap (hull v o.box_of) (sym (ap all_elements are ∙ two_parents a b));
            narrow = rw are (omega arith);
          },
          rw are (omega arith),
        ),
        rw are (two_trees (IsKeptInner v o widest) (IsElement v o) h a b first second),
      )

-- ---- node sizes

module _ {T E : Type 0} (min max : ℕ) where
  -- what is left of a list of children
  pub sized_whole : (h n : ℕ) (before out : List (RTreeNode T E)) (p : ParentNode T E) → AreSized min max h before → IsPermutation before (p.children.items ++ out)
      → vec_len p.children ≤ max → (min ≤ n → min ≤ vec_len p.children) → IsSizedAfter min max h n p None
  sized_whole h n before out p trees same most least =
      let parts = parts_of (HasSize min max) IsAny h before p.children.items out same trees in
      search (arith, tt, p.children.ok.0)

  -- a child that took an element in, and what it handed out
  pub sized_child : (h : ℕ) (old : List (RTreeNode T E)) (i : ℕ) (a b : ParentNode T E) (r : Option (ParentNode T E)) → 0 < h → i < length old → Parent a ≡ get_or old i (Parent a)
      → AreSized min max h old → (IsSizedTree min max (h - 1) a → IsSizedAfter min max (h - 1) (vec_len a.children) b r) → AreSized min max h (set old i (Parent b) ++ as_node r)
  sized_child h old i a b r above below is trees after =
      let here = parent_at (HasSize min max) IsAny h old i a above below is trees in
      let done = after (here.1, omega (arith, here.0.1, a.children.ok.0)) in
      child_put (HasSize min max) IsAny h old i b r above trees ((done.still_least (omega (arith, here.0.0, a.children.ok.0)), done.most), done.below) done.second_sized

  -- a root above two sized parts
  pub sized_above : (h n : ℕ) (a b p : ParentNode T E) → IsSizedAfter min max h n a (Some b) → p.children.items ≡ Parent a ∷ Parent b ∷ [] → 2 ≤ max → IsSizedTree min max (h + 1) p
  sized_above h n a b p after are wide =
      (rw are (two_trees (HasSize min max) IsAny h a b ((after.cut_least, after.most), after.below) after.second_sized), omega (arith, ap length are, p.children.ok.0))

-- ---- an element on its way in

module _ {T E : Type 0} (v : Boxes E) (o : Objects T E) (widest min max : ℕ) where
  -- these are the children of a parent with the element among them, or below one of them. Others were handed out.
  pub record HaveTaken (h : ℕ) (t : T) (p : ParentNode T E) (all : List (RTreeNode T E)) (out : List T) : Type 0 where
    pub bag : IsPermutation (t ∷ all_elements p.children.items) (all_elements all ++ out)
    pub kept : AreKept v o widest h all
    pub sized : AreSized min max h p.children.items → AreSized min max h all

  -- the sizes of a parent with a child more
  sized_cut : (h : ℕ) (before : List (RTreeNode T E)) (old : ParentNode T E) (child : RTreeNode T E) (p : ParentNode T E) (r : Option (ParentNode T E)) → 0 < min → AreSized min max h before
      → IsPermutation before (p.children.items ++ second_children r) → vec_len old.children ≤ max → AddsChild v o widest min max old child p r → IsSizedAfter min max h (vec_len old.children) p r
  sized_cut h before old child p None positive trees same few adds = sized_whole min max h (vec_len old.children) before [] p trees same adds.low (λ k. omega (arith, adds.whole))
  sized_cut h before old child p (Some q) positive trees same few adds =
      let parts = parts_of (HasSize min max) IsAny h before p.children.items q.children.items same trees in
      search (arith, p.children.ok.0, q.children.ok.0, adds.first_least, adds.second_least, adds.lengths)

module _ {T E : Type 0} {v : Boxes E} {o : Objects T E} {widest h : ℕ} {t : T} {p : ParentNode T E} (place : CanTakeIn v o widest h p t) where
  -- the child can take the element in too
  pub child_takes : (i : ℕ) (a : ParentNode T E) → 0 < h → i < length p.children.items → Parent a ≡ get_or p.children.items i (Parent a) → CanTakeIn v o widest (h - 1) a t
  child_takes i a above here is =
      let at = parent_at (IsKeptInner v o widest) (IsElement v o) h p.children.items i a above here is place.below in
      record { node = at.0.0; below = at.1; some = λ _. omega (arith, at.0.1, a.children.ok.0); element = place.element }

  -- the envelope that took the element in is the merge of all
  pub covers : {IsPoint : List ℤ → Type 0} (laws : EnvelopeLaws IsPoint v) (ok : ObjectLaws v o) (all : List (RTreeNode T E)) {f b : E} → o.IsValue t → f ≡ v.merge p.envelope b → b ≡ o.box_of t → IsPermutation (t ∷ all_elements p.children.items) (all_elements all) → AreKept v o widest h all
      → (f ≡ hull v o.box_of (all_elements all)) × (f ≡ hull v (node_box o.box_of) all)
  covers laws ok all {f} own next box bag kept =
      let values = kept_values laws ok widest h p.children.items place.below in
      let is : f ≡ hull v o.box_of (all_elements all) = (rw (place.node.tight, box) at next) ∙ laws.merge_comm _ _ (hull-value laws o.box_of (all_elements p.children.items) values) (ok t own)
      ∙ (hull_along laws o.box_of (t ∷ all_elements p.children.items) (all_elements all) bag (ok t own, values)).0 in
      (is, is ∙ sym (merged_is_hull laws ok h all (whole_of_kept laws ok widest h all kept)))

module _ {T E : Type 0} {v : Boxes E} {o : Objects T E} {widest min max h : ℕ} {t : T} {p : ParentNode T E} (place : CanTakeIn v o widest h p t) where
  pub leaf_in : h ≡ 0 → o.IsValue t → HaveTaken v o widest min max h t p (p.children.items ++ Leaf t ∷ []) []
  leaf_in low own = record {
    bag = rw (append-nil (all_elements (p.children.items ++ Leaf t ∷ [])), elements_put p.children.items t) (IsPermutation-sym _ _ (IsPermutation-to_front (all_elements p.children.items) t));
    kept = leaf_put (IsKeptInner v o widest) (IsElement v o) h t p.children.items low (own, place.element) place.below;
    sized = leaf_put (HasSize min max) IsAny h t p.children.items low tt;
  }

  pub child_in : (i : ℕ) (a b : ParentNode T E) (r : Option (ParentNode T E)) {out : List T} → 0 < h → i < length p.children.items → Parent a ≡ get_or p.children.items i (Parent a)
      → GoesIn v o widest min max (h - 1) t a b r out → HaveTaken v o widest min max h t p (set p.children.items i (Parent b) ++ as_node r) out
  child_in i a b r {out} above here is goes = record {
    bag = cut_bag t p.children.items i a b here is r out goes.bag;
    kept = child_put (IsKeptInner v o widest) (IsElement v o) h p.children.items i b r above place.below goes.first goes.second_kept;
    sized = λ trees. sized_child min max h p.children.items i a b r above here is trees goes.sized;
  }

  module _ {IsPoint : List ℤ → Type 0} (laws : EnvelopeLaws IsPoint v) (ok : ObjectLaws v o) where
    -- a child was added, and another parent may have been cut off
    pub cut_in : {q : ParentNode T E} {child : RTreeNode T E} {all : List (RTreeNode T E)} {new : ParentNode T E} {r : Option (ParentNode T E)} → 0 < min → HaveTaken v o widest min max h t p all []
        → AddsChild v o widest min max q child new r → q.children.items ++ child ∷ [] ≡ all → vec_len q.children ≡ vec_len p.children → GoesIn v o widest min max h t p new r []
    cut_in {q} {child} {all} {new} {r} positive taken adds is long =
        let same = rw is at adds.same in
        let parts = parted laws ok widest h t p.children.items all (second_children r) new (rw append-nil at taken.bag) taken.kept same adds.first in
        record {
          bag = rw append-nil parts.0;
          first = parts.1;
          second_kept = cut_kept laws ok widest h r parts.2 adds.second_merged;
          sized = λ sized. rw (← long) (sized_cut v o widest min max h all q child new r positive (taken.sized sized.0) same (rw long sized.1) adds);
        }

    -- no child was added
    pub whole_in : {all : List (RTreeNode T E)} {q : ParentNode T E} {out : List T} → 0 < h → HaveTaken v o widest min max h t p all out → q.children.items ≡ all → vec_len q.children ≡ vec_len p.children → q.envelope ≡ hull v o.box_of (all_elements all)
        → GoesIn v o widest min max h t p q None out
    whole_in {all} {q} above taken is long tight = record {
      bag = rw (append-nil q.children.items, is) taken.bag;
      first = still_kept v o widest h p q place.node.narrow (place.some above) long (rw is tight) (rw is taken.kept);
      second_kept = tt;
      sized = λ sized. sized_whole min max h (vec_len p.children) all [] q (taken.sized sized.0) (rw (append-nil q.children.items, is) (IsPermutation-refl all)) (rw long sized.1) (λ k. rw long k);
    }

-- ---- the reserve

module _ {A : Type 0} where
  -- the last spare list, and those before it
  pub last_spare : {max least : ℕ} {r : Reserve A} → IsReady max least r → (rest : List (Vec A Global)) (last : Vec A Global) → r.spares.items ≡ rest ++ last ∷ []
      → AllByRecursion (IsSpare r.widest) rest × IsSpare r.widest last
  last_spare {r = r} ready rest last is = all_last (IsSpare r.widest) r.spares.items rest last is ready.spares

  pub ready_for : {max least least' : ℕ} {r : Reserve A} → IsReady max least r → least' ≤ vec_len r.spares → IsReady max least' r
  ready_for ready enough = assumption

  -- what is left is ready for as many lists as are left
  pub ready_again : {max least least' : ℕ} {before after : ℕ → ℕ} {r s : Reserve A} → IsReady max least r → Spends before after r s → least' ≤ vec_len s.spares → IsReady max least' s
  ready_again ready spends enough = assumption (rw (← spends.widest) at ready.wide)

  -- a step that spends nothing
  pub spends_none : {max least : ℕ} {count : ℕ → ℕ} {r : Reserve A} → IsReady max least r → Spends count count r r
  spends_none {count = count} {r = r} ready = assumption (le_refl (vec_len r.spares), le_refl (vec_len r.spares + count r.widest), le_refl (vec_len r.spares + count 0))

  -- a step that takes the last spare list
  pub spends_one : {max least : ℕ} {before after : ℕ → ℕ} {r s : Reserve A} → IsReady max least r → (last : Vec A Global) → r.spares.items ≡ s.spares.items ++ last ∷ []
      → vec_len s.spares + 1 ≡ vec_len r.spares → vec_capacity s.spares ≡ vec_capacity r.spares → s.widest ≡ r.widest → IsSpare (s.widest + 1) s.overfull
      → before r.widest + 1 ≤ after r.widest → after 0 ≤ before 0 + 1 → Spends before after r s
  spends_one {s = s} ready last items len capacity same over room made =
      let spares = rw (← same) at (last_spare ready s.spares.items last items).0 in
      search arith

  -- two steps, one after the other
  pub spends_both : {a b c d : ℕ → ℕ} {r s t : Reserve A} → Spends a b r s → Spends c d s t → Spends (λ n. a n + c n) (λ n. b n + d n) r t
  spends_both first second =
      let room = rw first.widest at second.room in
      search arith

  -- the same step, told of other nodes
  pub spends_as : {a b a' b' : ℕ → ℕ} {r s : Reserve A} → Spends a b r s → ((n : ℕ) → n ≤ r.widest → a' n + b n ≡ a n + b' n) → Spends a' b' r s
  spends_as {a' = a'} {b' = b'} {r = r} {s = s} spends same =
      let room = same r.widest (omega arith) in let made = same 0 (omega arith) in
      search arith

  -- a step that begins with the nodes that another leaves
  pub spends_next : {a b c : ℕ → ℕ} {r s t : Reserve A} → Spends a b r s → Spends b c s t → Spends a c r t
  spends_next first second = spends_as (spends_both first second) (λ n few. omega arith)

-- ---- numbers of spare lists

-- one of the things that want b lists each is done
pub one_less : (m n b s t : ℕ) → m + 1 ≡ n → n * b ≤ s → s ≤ t + b → m * b ≤ t
one_less m n b s t is all used = let all' : (m + 1) * b ≤ s = rw is all in omega (arith, all', used)

pub some_spare : (r height have : ℕ) → spare_lists r height ≤ have → 0 < have
some_spare r height have lists = omega (arith, mul-le 1 1 (max 1 r) (height + r + 2) (omega arith) (omega arith))

-- the spare lists are enough for all that is handed out
pub enough_again : (r levels handed have : ℕ) → 0 < r → handed ≤ r → spare_lists r (1 + levels) ≤ have + 1 → handed * (levels + handed + 1) ≤ have
enough_again r levels handed have some few lists =
    let most : max 1 r ≡ r = omega (arith, some) in
    let all : r * (1 + levels + r + 2) ≤ have + 1 = rw most at lists in
    omega (arith, all, mul-le handed (levels + handed + 1) r (levels + r + 1) few (omega (arith, few)))
