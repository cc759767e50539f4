-- What a walk gives, against the list of the elements.
use Rattle.std.proofs.Common.{◌≡◌, ℕ, ℤ, List, [], ◌∷◌, ◌++◌, refl, ap, ◌∙◌, sym, subst, Bool, true, false, if◌then◌else◌, filter, ◌⊎◌, inl, inr}
use Rattle.std.specs.List.{AllByRecursion, AllZip}
use Rattle.std.proofs.lemmas.List.Elements.{filter-append}
use Rattle.rstar_base.specs.Envelopes.{Boxes, EnvelopeLaws}
use Rattle.rstar_base.specs.Elements.{Objects, ObjectLaws}
use Rattle.rstar_base.specs.Hulls.{hull}
use Rattle.rstar_base.specs.Selections.{IsLawful}
use Rattle.rstar_base.proofs.Hulls.{hull-value}
use Rattle.rstar.specs.declared.node.RTreeNode.{RTreeNode, Parent}
use Rattle.rstar.specs.declared.node.ParentNode.{ParentNode}
use Rattle.rstar.specs.Nodes.{joined, given, all_given, given_of, elements, all_elements, elements_of, children_of, envelope_of, IsTree, IsElement, IsTight, IsInner, AreWhole, IsWhole}
use Rattle.rstar.specs.Selections.{IsPartOf}
use Rattle.rstar.proofs.selecting.Folds.{zip-fold, flat_map-each, both-folds, by_height}
use Rattle.rstar.proofs.trees.ByChildren.{elements-Leaf, elements-Parent, given-Leaf, given-Parent}
use Rattle.rstar.proofs.trees.Trees.{all_sound, values-of}

-- ---- any function: what is given is selected, and each place at most once

part-refl : {A : Type 0} (xs : List A) → IsPartOf xs xs
part-refl [] = refl
part-refl (x ∷ xs) = inr (xs, refl, part-refl xs)

part-append : {A : Type 0} (xs xs' ys ys' : List A) → IsPartOf xs ys → IsPartOf xs' ys' → IsPartOf (xs ++ xs') (ys ++ ys')
part-append xs xs' [] ys' p q = subst (λ l. IsPartOf (l ++ xs') ys') (sym p) q
part-append xs xs' (y ∷ ys) ys' (inl p) q = inl (part-append xs xs' ys ys' p q)
part-append xs xs' (y ∷ ys) ys' (inr p) q = inr (p.0 ++ xs', ap (λ l. l ++ xs') p.1, part-append p.0 xs' ys ys' p.2 q)

part-if : {A : Type 0} (b : Bool) (xs ys : List A) → IsPartOf xs ys → IsPartOf (if b then xs else []) ys
part-if true xs ys p = p
part-if false xs [] p = refl
part-if false xs (y ∷ ys) p = inl (part-if false ys ys (part-refl ys))

module _ {T E : Type 0} (accepts : E → Bool) (selects : T → Bool) where
  abbrev IsPart : List T → List T → Type 0
  IsPart xs ys = IsPartOf xs (filter selects ys)

  part-joined : (xs ys : List (List T)) → AllZip IsPart xs ys → IsPart (joined xs) (joined ys)
  part-joined = zip-fold IsPart (λ xs ys. IsPart (joined xs) (joined ys)) refl
      (λ x y xs ys part rest. rw filter-append (part-append x (joined xs) (filter selects y) (filter selects (joined ys)) part rest))

  part-node : (n : RTreeNode T E) → IsPart (given accepts selects n) (elements n)
  unfolding given elements
  part-node n = both-folds IsPart _ _ _ _ (λ t. part-refl (filter selects (t ∷ []))) (λ e xs ys parts. part-if (accepts e) (joined xs) _ (part-joined xs ys parts)) n

  pub part-root : (root : ParentNode T E) → IsPartOf (given_of accepts selects root) (filter selects (elements_of root))
  part-root root = rw (given-Parent, elements-Parent) at (part-node (Parent root))

-- ---- a lawful function: all that is selected is given

module _ {T E : Type 0} {IsPoint : List ℤ → Type 0} {v : Boxes E} {o : Objects T E} (laws : EnvelopeLaws IsPoint v) (ok : ObjectLaws v o)
    (accepts : E → Bool) (selects : T → Bool) (lawful : IsLawful v o accepts selects) where
  -- where a merge that contains the elements is refused, none of them is selected
  pub none-selected : (ts : List T) (a : E) → AllByRecursion (IsElement v o) ts → v.IsValue a → accepts (v.merge a (hull v o.box_of ts)) ≡ false → filter selects ts ≡ []
  none-selected [] a all va refused = refl
  none-selected (t ∷ ts) a all va refused =
      let vt : v.IsValue (o.box_of t) = ok t all.0.0 in
      let vm : v.IsValue (hull v o.box_of ts) = hull-value laws o.box_of ts (values-of laws ok ts all.1) in
      let forward : v.merge a (v.merge (o.box_of t) (hull v o.box_of ts)) ≡ v.merge (o.box_of t) (v.merge a (hull v o.box_of ts)) =
      sym (laws.merge_assoc a (o.box_of t) _ va vt vm)
      ∙ ap (λ e. v.merge e (hull v o.box_of ts)) (laws.merge_comm a (o.box_of t) va vt)
      ∙ laws.merge_assoc (o.box_of t) a _ vt va vm in
      by_test (selects t) (λ (is : selects t ≡ true). lawful t (v.merge a (hull v o.box_of ts)) all.0.0 (laws.merge_value _ _ va vm) is all.0.1)
      (ap accepts (sym forward) ∙ refused)
      (none-selected ts (v.merge a (o.box_of t)) all.1 (laws.merge_value _ _ va vt)
      (ap accepts (laws.merge_assoc a (o.box_of t) _ va vt vm) ∙ refused)) refl
    where
      by_test : (b : Bool) {c : Bool} → (selects t ≡ true → c ≡ true) → c ≡ false → filter selects ts ≡ [] → selects t ≡ b → (if b then t ∷ filter selects ts else filter selects ts) ≡ []
      by_test true f denied others is = cc (f is, denied)
      by_test false f denied others is = others

  -- at a parent: either it is opened, or none of its elements is selected
  pub at-parent : {X : Type 0} (h : ℕ) (p : ParentNode T E) → IsTight v o p → AreWhole v o h (children_of p) → (below other all : X)
      → below ≡ all → (filter selects (elements_of p) ≡ [] → other ≡ all) → (if accepts (envelope_of p) then below else other) ≡ all
  at-parent h p tight whole below other all opened refused = by_test (accepts (envelope_of p)) refl
    where
      by_test : (b : Bool) → accepts (envelope_of p) ≡ b → (if b then below else other) ≡ all
      by_test true is = opened
      by_test false is =
          let sound = all_sound v o h (children_of p) whole in
          let vm = hull-value laws o.box_of (elements_of p) (values-of laws ok (elements_of p) sound) in
          refused (none-selected (elements_of p) v.empty sound laws.empty_value (ap accepts (laws.merge_empty _ vm ∙ sym tight) ∙ is))

  pub all-each : (h : ℕ) → ((n : RTreeNode T E) → IsTree (IsInner v o) (IsElement v o) h n → given accepts selects n ≡ filter selects (elements n))
      → (ns : List (RTreeNode T E)) → AreWhole v o h ns → all_given accepts selects ns ≡ filter selects (all_elements ns)
  all-each h = flat_map-each (filter selects) refl (filter-append selects) (given accepts selects) elements (IsTree (IsInner v o) (IsElement v o) h)

  pub all-node : (h : ℕ) (n : RTreeNode T E) → IsTree (IsInner v o) (IsElement v o) h n → given accepts selects n ≡ filter selects (elements n)
  all-node = by_height (IsInner v o) (IsElement v o) (λ h n. given accepts selects n ≡ filter selects (elements n))
      (λ t is. given-Leaf T E accepts selects t ∙ sym (ap (filter selects) (elements-Leaf T E t)))
      (λ h one p inner whole. given-Parent accepts selects p ∙ at-parent h p inner.0 whole _ [] _ (all-each h one (children_of p) whole) (λ none. sym none)
      ∙ sym (ap (filter selects) (elements-Parent p)))

  pub all-root : (root : ParentNode T E) → IsWhole v o root → given_of accepts selects root ≡ filter selects (elements_of root)
  all-root root whole =
      at-parent whole.height root whole.tight whole.below _ [] _ (all-each whole.height (all-node whole.height) (children_of root) whole.below) (λ none. sym none)

-- a filter that keeps all
pub filter-every : {A : Type 0} (xs : List A) → filter (λ x. true) xs ≡ xs
filter-every [] = refl
filter-every (x ∷ xs) = ap (λ l. x ∷ l) (filter-every xs)

-- ---- from a root

module _ {T E : Type 0} (accepts : E → Bool) (selects : T → Bool) (root : ParentNode T E) where
  pub gives_below : accepts (envelope_of root) ≡ true → given_of accepts selects root ≡ all_given accepts selects (children_of root)
  gives_below accepted = rw accepted

  -- a root without children, or one that is refused
  pub gives_none : (children_of root ≡ []) ⊎ (accepts (envelope_of root) ≡ false) → given_of accepts selects root ≡ []
  gives_none (inr refused) = rw refused
  gives_none (inl none) = elim (accepts (envelope_of root)) as (λ b. (if b then all_given accepts selects (children_of root) else []) ≡ []) [ true ↦ ap (all_given accepts selects) none | false ↦ refl ]
