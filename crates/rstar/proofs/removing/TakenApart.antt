-- A tree that is taken apart, from its last element on.
use Rattle.std.proofs.Common.{◌≡◌, ◌∙◌, ℕ, zero, suc, ◌+◌, ◌<◌, ◌≤◌, List, [], ◌∷◌, ◌++◌, refl, sym, ap, subst, arith, length, length-append, map, append_assoc, Some, Vec, Global, vec_len, vec_capacity, reverse}
use Rattle.std.specs.Iterator.{MakesProgress, item_count}
use Rattle.std.specs.List.{AllByRecursion}
use Rattle.std.proofs.lemmas.List.{append-nil, map-append, length-map, reverse-append}
use Rattle.std.proofs.lemmas.List.Concat.{flat_map-append}
use Rattle.rstar_base.specs.Envelopes.{Boxes}
use Rattle.rstar_base.specs.Elements.{Objects}
use Rattle.rstar_base.proofs.Lists.{all_first, all_second}
use Rattle.rstar.specs.declared.node.RTreeNode.{RTreeNode, Leaf, Parent}
use Rattle.rstar.specs.declared.node.ParentNode.{ParentNode}
use Rattle.rstar.specs.Heights.{levels_below}
use Rattle.rstar.specs.declared.iterators.into_iter.IntoIter.{IntoIter}
use Rattle.rstar.specs.IntoIters.{lists_of, elements_held, left_to_give, AreLists, HasItsLists, IsGiving}
use Rattle.rstar.specs.Nodes.{elements, all_elements, elements_of, children_of, total, IsInner, IsElement, IsWhole}
use Rattle.rstar.specs.inside.Traversals.{IsLevel, steps}
use Rattle.rstar.proofs.trees.Heights.{at_levels}
use Rattle.rstar.proofs.trees.ByChildren.{elements-Leaf, elements-Parent, steps-Parent}
use Rattle.rstar.proofs.selecting.Traversals.{level-Parent, all-level}

-- how many steps lists take, each one more for its end
abbrev pub steps_in : {T E : Type 0} → List (List (RTreeNode T E)) → ℕ
steps_in [] = 0
steps_in (nodes ∷ lists) = steps_in lists + (1 + total (map steps nodes))

total-append : (xs ys : List ℕ) → total (xs ++ ys) ≡ total xs + total ys
total-append [] ys = omega arith
total-append (x ∷ xs) ys = omega (arith, total-append xs ys)

module _ {T E : Type 0} where
  steps-last : (lists : List (List (RTreeNode T E))) (nodes : List (RTreeNode T E)) → steps_in (lists ++ nodes ∷ []) ≡ steps_in lists + (1 + total (map steps nodes))
  steps-last [] nodes = refl
  steps-last (m ∷ lists) nodes = omega (arith, steps-last lists nodes)

  held-last : (lists : List (List (RTreeNode T E))) (nodes : List (RTreeNode T E)) → elements_held (lists ++ nodes ∷ []) ≡ elements_held lists ++ all_elements nodes
  held-last lists nodes = flat_map-append all_elements lists (nodes ∷ []) ∙ ap (λ (l : List T). elements_held lists ++ l) (append-nil (all_elements nodes))

  lists-push : (h k : ℕ) (lists : List (List (RTreeNode T E))) (nodes : List (RTreeNode T E)) → k + 1 + length lists ≡ h → AreLists h lists → AllByRecursion (IsLevel k) nodes → AreLists h (lists ++ nodes ∷ [])
  lists-push zero k lists nodes e is level = absurd (omega arith)
  lists-push (suc h) k [] nodes e is level =
      let same : k ≡ h = omega arith in (subst (λ n. AllByRecursion (IsLevel n) nodes) same level, is)
  lists-push (suc h) k (m ∷ lists) nodes e is level = (is.0, lists-push h k lists nodes (omega arith) is.1 level)

  lists-pop : (h : ℕ) (lists : List (List (RTreeNode T E))) (nodes : List (RTreeNode T E)) → AreLists h (lists ++ nodes ∷ []) → (k : ℕ) × (k + 1 + length lists ≡ h) × AreLists h lists × AllByRecursion (IsLevel k) nodes
  lists-pop zero [] nodes is = absurd is
  lists-pop zero (m ∷ lists) nodes is = absurd is
  lists-pop (suc h) [] nodes is = (h, omega arith, tt, is.0)
  lists-pop (suc h) (m ∷ lists) nodes is =
      let r = lists-pop h lists nodes is.1 in (r.0, omega (arith, r.1), (is.0, r.2), r.3)

  -- the last node is a parent, whose children come next
  pub goes_below : (room : ℕ) (lists : List (List (RTreeNode T E))) (nodes rest : List (RTreeNode T E)) (p : ParentNode T E) → nodes ≡ rest ++ Parent p ∷ [] → HasItsLists room (lists ++ nodes ∷ [])
      → (length lists < room) × HasItsLists room ((lists ++ rest ∷ []) ++ children_of p ∷ [])
      × (elements_held (lists ++ nodes ∷ []) ≡ elements_held ((lists ++ rest ∷ []) ++ children_of p ∷ []))
      × (steps_in ((lists ++ rest ∷ []) ++ children_of p ∷ []) < steps_in (lists ++ nodes ∷ []))
  goes_below room lists nodes rest p is its =
      let r = lists-pop its.height lists nodes its.levels in let level = subst (AllByRecursion (IsLevel r.0)) is r.3 in
      let last = all_second (IsLevel r.0) rest (Parent p ∷ []) level in let below = level-Parent r.0 p last.0 in
      let fits = its.fits in let long = length-append lists (rest ∷ []) in
      let beside = lists-push its.height r.0 lists rest r.1 r.2 (all_first (IsLevel r.0) rest (Parent p ∷ []) level) in
      let one : all_elements nodes ≡ all_elements rest ++ all_elements (children_of p) =
      ap all_elements is ∙ flat_map-append elements rest (Parent p ∷ []) ∙ ap (λ (l : List T). all_elements rest ++ l) (append-nil (elements (Parent p)) ∙ elements-Parent p) in
      let steps_here = ap (λ (l : List (RTreeNode T E)). total (map steps l)) is ∙ ap total (map-append steps rest (Parent p ∷ [])) ∙ total-append (map steps rest) (map steps (Parent p ∷ [])) in (
        omega (arith, r.1, below.1, fits),
        record { height = its.height; fits = its.fits; levels = lists-push its.height below.0 (lists ++ rest ∷ []) (children_of p) (omega (arith, r.1, below.1, long)) beside below.2 },
        rw (held-last lists nodes, held-last (lists ++ rest ∷ []) (children_of p), held-last lists rest, one) (sym (append_assoc (elements_held lists) (all_elements rest) (all_elements (children_of p)))),
        omega (arith, steps_here, steps-Parent p, steps-last lists nodes, steps-last lists rest, steps-last (lists ++ rest ∷ []) (children_of p)),
      )

  -- where it begins
  pub begins_below : (v : Boxes E) (o : Objects T E) (root : ParentNode T E) (room : ℕ) (lists : List (List (RTreeNode T E))) → IsWhole v o root → lists ≡ [] → levels_below (children_of root) ≤ room
      → HasItsLists room (lists ++ children_of root ∷ []) × (elements_held (lists ++ children_of root ∷ []) ≡ elements_of root)
  begins_below v o root room lists whole none fits =
      let height = levels_below (children_of root) in
      let levels = all-level v o height (children_of root) (at_levels (IsInner v o) (IsElement v o) (λ p q. q.1) whole.height height (children_of root) refl whole.below) in
      rw none (record { height = suc height; fits = omega arith; levels = (levels, tt) }, append-nil (elements_of root))

module _ {T E : Type 0} where
  -- a call that gives an element, and leaves fewer
  pub goes_on : (old new : IntoIter T E) (t : T) → left_to_give old ≡ t ∷ left_to_give new → IsGiving new → MakesProgress IsGiving (item_count left_to_give) old (Some t) new
  goes_on old new t e giving = let fewer = ap length e in record { on = λ finite. (giving, tt, omega (arith, fewer)); keeps = giving; rests = λ finite. tt }

  -- the same of an iterator: it goes on with the children of its last node
  pub went_below : (old new : IntoIter T E) (rest : Vec (RTreeNode T E) Global) (p : ParentNode T E) → old.nodes.items ≡ rest.items ++ Parent p ∷ [] → new.nodes.items ≡ children_of p
      → new.path.items ≡ old.path.items ++ rest ∷ [] → vec_capacity new.path ≡ vec_capacity old.path → HasItsLists (vec_capacity old.path) (lists_of old)
      → HasItsLists (vec_capacity new.path) (lists_of new) × (elements_held (lists_of old) ≡ elements_held (lists_of new)) × (steps_in (lists_of new) < steps_in (lists_of old))
  went_below old new rest p is nodes path room its =
      let all = goes_below (vec_capacity old.path) (map (λ v. v.items) old.path.items) old.nodes.items rest.items p is its in
      rw (room, path, map-append (λ v. v.items) old.path.items (rest ∷ []), nodes) (all.1, all.2, all.3)

  -- and back to the list above
  pub went_back : (old : IntoIter T E) (path : Vec (Vec (RTreeNode T E) Global) Global) (above : Vec (RTreeNode T E) Global) → old.nodes.items ≡ [] → old.path.items ≡ path.items ++ above ∷ []
      → vec_capacity path ≡ vec_capacity old.path → HasItsLists (vec_capacity old.path) (lists_of old)
      → HasItsLists (vec_capacity path) (map (λ v. v.items) path.items ++ above.items ∷ []) × (elements_held (lists_of old) ≡ elements_held (map (λ v. v.items) path.items ++ above.items ∷ []))
      × (steps_in (map (λ v. v.items) path.items ++ above.items ∷ []) < steps_in (lists_of old))
  went_back old path above none is room its =
      let lists : List (List (RTreeNode T E)) = map (λ v. v.items) old.path.items in
      let now : lists ≡ map (λ v. v.items) path.items ++ above.items ∷ [] = ap (map (λ v. v.items)) is ∙ map-append (λ v. v.items) path.items (above ∷ []) in
      rw (room, ← now) (
        record { height = its.height; fits = its.fits; levels = (lists-pop its.height lists old.nodes.items its.levels).2 },
        held-last lists old.nodes.items ∙ ap (λ (l : List (RTreeNode T E)). elements_held lists ++ all_elements l) none ∙ append-nil (elements_held lists),
        omega (arith, steps-last lists old.nodes.items),
      )

  -- there is room for the list that is left for a parent's
  pub has_room : (old : IntoIter T E) (rest : List (RTreeNode T E)) (p : ParentNode T E) → old.nodes.items ≡ rest ++ Parent p ∷ [] → HasItsLists (vec_capacity old.path) (lists_of old)
      → vec_len old.path < vec_capacity old.path
  has_room old rest p is its =
      let same = length-map old.path.items (λ v. v.items) in let counted = old.path.ok.0 in
      omega (arith, (goes_below (vec_capacity old.path) (map (λ v. v.items) old.path.items) old.nodes.items rest p is its).0, same, counted)

  -- it gives its last node, a leaf
  pub gave : (old : IntoIter T E) (rest : Vec (RTreeNode T E) Global) (t : T) → old.nodes.items ≡ rest.items ++ Leaf t ∷ [] → HasItsLists (vec_capacity old.path) (lists_of old)
      → HasItsLists (vec_capacity old.path) (map (λ v. v.items) old.path.items ++ rest.items ∷ [])
      × (reverse (elements_held (lists_of old)) ≡ t ∷ reverse (elements_held (map (λ v. v.items) old.path.items ++ rest.items ∷ [])))
  gave old rest t is its =
      let lists : List (List (RTreeNode T E)) = map (λ v. v.items) old.path.items in
      let r = lists-pop its.height lists old.nodes.items its.levels in
      let one : all_elements old.nodes.items ≡ all_elements rest.items ++ t ∷ [] =
      ap all_elements is ∙ flat_map-append elements rest.items (Leaf t ∷ []) ∙ ap (λ (l : List T). all_elements rest.items ++ (l ++ [])) (elements-Leaf T E t) in
      let held : elements_held (lists ++ old.nodes.items ∷ []) ≡ elements_held (lists ++ rest.items ∷ []) ++ t ∷ [] =
      rw (held-last lists old.nodes.items, held-last lists rest.items, one) (sym (append_assoc (elements_held lists) (all_elements rest.items) (t ∷ []))) in (
        record { height = its.height; fits = its.fits; levels = lists-push its.height r.0 lists rest.items r.1 r.2 (all_first (IsLevel r.0) rest.items (Leaf t ∷ []) (subst (AllByRecursion (IsLevel r.0)) is r.3)) },
        ap reverse held ∙ reverse-append (elements_held (lists ++ rest.items ∷ [])) (t ∷ []),
      )
