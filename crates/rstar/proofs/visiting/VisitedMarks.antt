-- What a walk that writes comes to, against the list of the elements.
use Rattle.std.proofs.Common.{◌≡◌, ℕ, ℤ, ◌∙◌, List, [], ◌∷◌, ap, sym, refl, Bool, true, false, if◌then◌else◌, filter}
use Rattle.std.proofs.lemmas.List.{map-append}
use Rattle.std.specs.List.{AllByRecursion, AllZip}
use Rattle.rstar_base.specs.Envelopes.{Boxes, EnvelopeLaws}
use Rattle.rstar_base.specs.Elements.{Objects, ObjectLaws}
use Rattle.rstar_base.specs.Selections.{IsLawful}
use Rattle.rstar_base.proofs.Lists.{all-append}
use Rattle.rstar.specs.declared.node.RTreeNode.{RTreeNode, Leaf, Parent}
use Rattle.rstar.specs.declared.node.ParentNode.{ParentNode}
use Rattle.rstar.specs.Nodes.{fold_tree, joined, children_of, elements, elements_of, all_elements, IsTree, IsTight, IsInner, IsElement, AreWhole, IsWhole}
use Rattle.rstar.specs.Visits.{Marked, marked_by, unmarked, without_marks, marked, all_marked, marked_of}
use Rattle.rstar.proofs.selecting.Folds.{zip-fold, flat_map-each, both-folds, by_height}
use Rattle.rstar.proofs.selecting.Complete.{at-parent}
use Rattle.rstar.proofs.trees.ByChildren.{fold_tree-Parent, joined-map, elements-Leaf, elements-Parent}

pub marked-Leaf : (T E : Type 0) (accepts : E → Bool) (selects : T → Bool) (t : T) → marked accepts selects (Leaf t) ≡ (t, selects t) ∷ []
unfolding marked fold_tree
marked-Leaf T E accepts selects t = refl

module _ {T : Type 0} (selects : T → Bool) where
  -- the marks of these elements: one that is marked is selected
  abbrev pub AreMarks : List (Marked T) → List T → Type 0
  AreMarks ms ts = (without_marks ms ≡ ts) × AllByRecursion (λ m. m.1 ≡ true → selects m.0 ≡ true) ms

  marks-if : (b : Bool) (ms : List (Marked T)) (ts : List T) → AreMarks ms ts → AreMarks (if b then ms else unmarked ms) ts
  marks-if true ms ts marks = marks
  marks-if false [] ts marks = marks
  marks-if false (m ∷ ms) ts marks =
      let below = marks-if false ms (without_marks ms) (refl, marks.1.1) in
      (ap (λ l. m.0 ∷ l) below.0 ∙ marks.0, (λ is. cc is, below.1))

  marks-joined : (xs : List (List (Marked T))) (ys : List (List T)) → AllZip AreMarks xs ys → AreMarks (joined xs) (joined ys)
  marks-joined = zip-fold AreMarks (λ xs ys. AreMarks (joined xs) (joined ys)) (refl, tt)
      (λ ms ts xs ys one rest. (rw (map-append, one.0, rest.0), all-append (λ m. m.1 ≡ true → selects m.0 ≡ true) ms (joined xs) one.1 rest.1))

  -- where no element is selected, none is marked
  none-marked : (ms : List (Marked T)) → filter selects (without_marks ms) ≡ [] → unmarked ms ≡ marked_by selects (without_marks ms)
  none-marked [] none = refl
  none-marked (m ∷ ms) none = by_test (selects m.0) refl none (none-marked ms)
    where
      by_test : (b : Bool) → selects m.0 ≡ b → (if b then m.0 ∷ filter selects (without_marks ms) else filter selects (without_marks ms)) ≡ []
          → (filter selects (without_marks ms) ≡ [] → unmarked ms ≡ marked_by selects (without_marks ms)) → unmarked (m ∷ ms) ≡ marked_by selects (without_marks (m ∷ ms))
      by_test true is none below = cc none
      by_test false is none below = rw (is, below none)

module _ {T E : Type 0} (accepts : E → Bool) (selects : T → Bool) where
  pub marked-Parent : (p : ParentNode T E) → marked accepts selects (Parent p) ≡ marked_of accepts selects p
  unfolding marked
  marked-Parent p = fold_tree-Parent _ _ p ∙ ap (λ l. if accepts p.envelope then l else unmarked l) (joined-map (marked accepts selects) p.children.items)

  marks-node : (n : RTreeNode T E) → AreMarks selects (marked accepts selects n) (elements n)
  unfolding marked elements
  marks-node n =
      both-folds (AreMarks selects) _ _ _ _ (λ t. (refl, (λ is. is, tt))) (λ e xs ys each. marks-if selects (accepts e) (joined xs) (joined ys) (marks-joined selects xs ys each)) n

  pub marks-root : (root : ParentNode T E) → AreMarks selects (marked_of accepts selects root) (elements_of root)
  marks-root root = rw (marked-Parent, elements-Parent) at (marks-node (Parent root))

  pub all-marks : (ns : List (RTreeNode T E)) → without_marks (all_marked accepts selects ns) ≡ all_elements ns
  all-marks [] = refl
  all-marks (n ∷ ns) = rw (map-append, (marks-node n).0, all-marks ns)

-- ---- a lawful function: all that is selected is marked

module _ {T E : Type 0} {IsPoint : List ℤ → Type 0} {v : Boxes E} {o : Objects T E} (laws : EnvelopeLaws IsPoint v) (ok : ObjectLaws v o)
    (accepts : E → Bool) (selects : T → Bool) (lawful : IsLawful v o accepts selects) where
  -- at a parent: either it is opened, or none of its elements is selected
  marked-parent : (h : ℕ) → ((n : RTreeNode T E) → IsTree (IsInner v o) (IsElement v o) h n → marked accepts selects n ≡ marked_by selects (elements n))
      → (p : ParentNode T E) → IsTight v o p → AreWhole v o h (children_of p) → marked_of accepts selects p ≡ marked_by selects (elements_of p)
  marked-parent h one p tight whole =
      let same = all-marks accepts selects (children_of p) in
      at-parent laws ok accepts selects lawful h p tight whole _ _ _
      (flat_map-each (marked_by selects) refl (map-append (λ t. (t, selects t))) (marked accepts selects) elements (IsTree (IsInner v o) (IsElement v o) h) one (children_of p) whole)
      (λ none. none-marked selects _ (ap (filter selects) same ∙ none) ∙ ap (marked_by selects) same)

  marked-node : (h : ℕ) (n : RTreeNode T E) → IsTree (IsInner v o) (IsElement v o) h n → marked accepts selects n ≡ marked_by selects (elements n)
  marked-node = by_height (IsInner v o) (IsElement v o) (λ h n. marked accepts selects n ≡ marked_by selects (elements n))
      (λ t is. marked-Leaf T E accepts selects t ∙ sym (ap (marked_by selects) (elements-Leaf T E t)))
      (λ h one p inner whole. marked-Parent accepts selects p ∙ marked-parent h one p inner.0 whole ∙ sym (ap (marked_by selects) (elements-Parent p)))

  pub marked-root : (root : ParentNode T E) → IsWhole v o root → marked_of accepts selects root ≡ marked_by selects (elements_of root)
  marked-root root whole = marked-parent whole.height (marked-node whole.height) root whole.tight whole.below
