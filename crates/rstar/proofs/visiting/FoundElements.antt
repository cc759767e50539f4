-- The element that a search finds at the end of its way.
use Rattle.std.proofs.Common.{◌≡◌, ℕ, zero, suc, ◌<◌, nat_lt, Bool, true, false, ◌&&◌, ◌||◌, List, [], ◌∷◌, ◌++◌, map, length, take, drop, if◌then◌else◌, slice_index_or, slice_set, refl, ap, sym, ◌∙◌, arith, append_assoc, filter, ℤ}
use Rattle.std.specs.List.{AllByRecursion, AllZip, list_any}
use Rattle.std.proofs.lemmas.Bool.Decides.{nat_tests}
use Rattle.std.proofs.lemmas.Bool.{ltb-true}
use Rattle.std.proofs.lemmas.List.{length-map, set_split, set-get_or}
use Rattle.std.proofs.lemmas.List.Concat.{flat_map-append}
use Rattle.rstar.specs.declared.node.RTreeNode.{RTreeNode, Parent}
use Rattle.rstar.specs.declared.node.RTreeNode.TheVariants.{outs-Parent, outs-Leaf}
use Rattle.rstar.specs.declared.node.RTreeNode.TheOpen as layer
use Rattle.rstar.specs.declared.node.ParentNode.{ParentNode}
use Rattle.rstar.specs.declared.rtree.RTree.{RTree}
use Rattle.rstar_base.specs.Envelopes.{Boxes, EnvelopeLaws}
use Rattle.rstar_base.specs.Elements.{Objects, ObjectLaws, Distances, DistanceLaws}
use Rattle.rstar_base.specs.Selections.{IsLawful}
use Rattle.rstar.specs.Nodes.{Layer, layer_of, children_of, joined, elements, all_elements, given, all_given, IsTree, IsInner, IsElement, AreWhole}
use Rattle.rstar.specs.inside.WaysDown.{first_true, finds, first_finding, first_at, child_at, next_on, Leads, LeadsBelow, IsAt, change_at, change_below}
use Rattle.rstar.specs.Changes.{KeepsBox, IsChangedTree}
use Rattle.rstar.specs.Trees.{WholeTree}
use Rattle.rstar.proofs.selecting.Folds.{zip-fold, both-folds, by_height}
use Rattle.rstar.proofs.selecting.Complete.{all-each, all-node}
use Rattle.rstar.proofs.trees.ByChildren.{joined-map, elements-Leaf, elements-Parent}
use Rattle.rstar.proofs.trees.Heights.{levels_are}
use Rattle.rstar.proofs.visiting.Changes.{below-changed}
use Rattle.rstar.proofs.visiting.WaysDown.{finds-Leaf, finds-Parent}
use Rattle.rstar.proofs.lists.Items.{all_get}

both-true : (a b : Bool) → (a && b) ≡ true → b ≡ true
both-true true b e = e
both-true false b e = cc e

-- one of several nodes is replaced by m, which has the element u
elements-set : {T E : Type 0} (ns : List (RTreeNode T E)) (i : ℕ) (m : RTreeNode T E) (xs : List T) (u : T) (ys : List T) → i < length ns → elements m ≡ xs ++ u ∷ ys
    → all_elements (slice_set ns i m) ≡ (all_elements (take i ns) ++ xs) ++ u ∷ (ys ++ all_elements (drop (suc i) ns))
elements-set ns i m xs u ys within is = rw (set_split ns i m within, flat_map-append, is) (simp append_assoc)

module _ {T E : Type 0} (accepts : E → Bool) (selects : T → Bool) where
  abbrev pub way : ParentNode T E → ℕ
  way p = first_finding accepts selects (children_of p)

  found-there : (ns : List (RTreeNode T E)) (d : RTreeNode T E) → first_finding accepts selects ns < length ns → finds accepts selects (slice_index_or ns (first_finding accepts selects ns) d) ≡ true
  found-there [] d h = absurd (omega arith)
  found-there (n ∷ ns) d h = by_test (finds accepts selects n) refl (found-there ns d) h
    where
      by_test : (b : Bool) → finds accepts selects n ≡ b → (first_finding accepts selects ns < length ns → finds accepts selects (slice_index_or ns (first_finding accepts selects ns) d) ≡ true)
          → (if b then 0 else suc (first_finding accepts selects ns)) < suc (length ns) → finds accepts selects (slice_index_or (n ∷ ns) (if b then 0 else suc (first_finding accepts selects ns)) d) ≡ true
      by_test true says below h = says
      by_test false says below h = below (omega arith)

  -- a selected element at the end of a way, among all elements, and those with it changed
  pub record IsAtEnd (Led : Type 0) (At : T → Type 0) (all : List T) (with_change : (T → T) → List T) : Type 0 where
    pub before : List T
    pub found : T
    pub after : List T
    pub selected : selects found ≡ true
    pub leads : Led
    pub at : At found
    pub elements_are : all ≡ before ++ found ∷ after
    pub changed : (f : T → T) → with_change f ≡ before ++ f found ∷ after

  -- so many levels below a node, and below a child of a parent
  abbrev IsFound : ℕ → RTreeNode T E → Type 0
  IsFound h n = IsAtEnd (Leads way h (layer_of n)) (IsAt way h (layer_of n)) (elements n) (λ f. elements (change_at way f h (layer_of n)))

  abbrev pub IsFoundBelow : ℕ → ParentNode T E → Type 0
  IsFoundBelow h p = IsAtEnd (LeadsBelow way h p) (IsAt way h (layer_of (child_at p (way p)))) (all_elements (children_of p)) (λ f. all_elements (children_of (change_below way f h p)))

  module _ (Q : ParentNode T E → Type 0) (R : T → Type 0) where
    below-by : (h : ℕ) → ((n : RTreeNode T E) → IsTree Q R h n → finds accepts selects n ≡ true → IsFound h n)
        → (p : ParentNode T E) → AllByRecursion (IsTree Q R h) (children_of p) → way p < length (children_of p) → IsFoundBelow h p
    below-by h one p w fits =
        let ns = children_of p in let child = child_at p (way p) in
        let b = one child (all_get (IsTree Q R h) ns (way p) (Parent p) fits w) (found-there ns (Parent p) fits) in record {
          before = all_elements (take (way p) ns) ++ b.before;
          found = b.found;
          after = b.after ++ all_elements (drop (suc (way p)) ns);
          selected = b.selected;
          leads = (fits, b.leads);
          at = b.at;
          elements_are = sym (ap all_elements (set-get_or ns (way p) (Parent p))) ∙ elements-set ns (way p) child b.before b.found b.after fits b.elements_are;
          changed = λ f. elements-set ns (way p) (change_at way f h (layer_of child)) b.before (f b.found) b.after fits (b.changed f);
        }

    found-at : (h : ℕ) (n : RTreeNode T E) → IsTree Q R h n → finds accepts selects n ≡ true → IsFound h n
    found-at = by_height Q R (λ h n. finds accepts selects n ≡ true → IsFound h n)
        (λ t is says. simp (outs-Leaf, elements-Leaf)
        (record { before = []; found = t; after = []; selected = sym (finds-Leaf T E accepts selects t) ∙ says; leads = tt; at = refl; elements_are = refl; changed = λ f. refl }))
        (λ h one p inner w says.
        let said = sym (finds-Parent T E accepts selects p) ∙ says in
        simp (outs-Parent, elements-Parent) (below-by h one p w (ltb-true (way p) (length (children_of p)) (both-true _ _ said))))

    pub found-below : (h : ℕ) (p : ParentNode T E) → AllByRecursion (IsTree Q R h) (children_of p) → way p < length (children_of p) → IsFoundBelow h p
    found-below h = below-by h (found-at h)

-- the element found in a whole tree, and the tree with it changed
module _ {T D E P S X : Type 0} {v : Boxes E} {o : Objects T E} {max : ℕ} (accepts : E → Bool) (selects : T → Bool) (tree : RTree T D E P S X) (whole : WholeTree v o max tree)
    (fits : way accepts selects tree.root < length (children_of tree.root)) where
  high : tree.levels ≡ whole.root_whole.height
  high = whole.leveled ∙ levels_are (IsInner v o) (IsElement v o) (λ p i. i.1) whole.root_whole.height (children_of tree.root) (λ none. let e = ap length none in absurd (omega arith)) whole.root_whole.below

  pub found-in : IsFoundBelow accepts selects tree.levels tree.root
  found-in = rw high (found-below accepts selects (IsInner v o) (IsElement v o) whole.root_whole.height tree.root whole.root_whole.below fits)

  pub changed-in : (f : T → T) → ((t : T) → KeepsBox o t (f t))
      → IsChangedTree (KeepsBox o) whole.root_whole.height tree (record tree { root = change_below (way accepts selects) f tree.levels tree.root })
  changed-in f kept = record {
    root = rw high (below-changed (KeepsBox o) (λ t. (refl, λ is. is)) (IsInner v o) (IsElement v o) (way accepts selects) f kept whole.root_whole.height tree.root whole.root_whole.below);
    size = refl;
    levels = refl;
    reserve = refl;
  }

-- ---- where nothing is found

first-there : (b : Bool) (m n : ℕ) → nat_lt (if b then 0 else suc m) (suc n) ≡ (b || nat_lt m n)
first-there b m n = grind (arith, nat_tests)

abbrev pub full : {A : Type 0} → List A → Bool
full [] = false
full (x ∷ xs) = true

full-append : {A : Type 0} (xs ys : List A) → full (xs ++ ys) ≡ (full xs || full ys)
full-append [] ys = refl
full-append (x ∷ xs) ys = refl

pub any-filter : {A : Type 0} (test : A → Bool) (xs : List A) → full (filter test xs) ≡ list_any test xs
any-filter test [] = refl
any-filter test (x ∷ xs) = elim (test x) as (λ b. full (if b then x ∷ filter test xs else filter test xs) ≡ (b || list_any test xs)) [ true ↦ refl | false ↦ any-filter test xs ]

-- a search finds one just where the walk gives one
module _ {T E : Type 0} (accepts : E → Bool) (selects : T → Bool) where
  full-if : (b : Bool) (xs : List T) → (b && full xs) ≡ full (if b then xs else [])
  full-if true xs = refl
  full-if false xs = refl

  full-joined : (bs : List Bool) (xs : List (List T)) → AllZip (λ b x. b ≡ full x) bs xs → nat_lt (first_true bs) (length bs) ≡ full (joined xs)
  full-joined = zip-fold (λ b x. b ≡ full x) (λ bs xs. nat_lt (first_true bs) (length bs) ≡ full (joined xs)) refl
      (λ b x bs xs one rest. first-there b (first_true bs) (length bs) ∙ cc (one, rest, full-append x (joined xs)))

  full-node : (n : RTreeNode T E) → finds accepts selects n ≡ full (given accepts selects n)
  unfolding finds given
  full-node n = both-folds (λ b x. b ≡ full x) _ _ _ _ (λ t. elim (selects t) as (λ b. b ≡ full (if b then t ∷ [] else [])) [ true ↦ refl | false ↦ refl ]) (λ e bs xs each. ap (λ b. accepts e && b) (full-joined bs xs each) ∙ full-if (accepts e) (joined xs)) n

  full-each : (ns : List (RTreeNode T E)) → AllZip (λ b x. b ≡ full x) (map (finds accepts selects) ns) (map (given accepts selects) ns)
  full-each [] = tt
  full-each (n ∷ ns) = (full-node n, full-each ns)

  full-all : (ns : List (RTreeNode T E)) → nat_lt (first_finding accepts selects ns) (length ns) ≡ full (all_given accepts selects ns)
  full-all ns =
      ap (λ k. nat_lt (first_finding accepts selects ns) k) (sym (length-map ns (finds accepts selects)))
      ∙ full-joined _ _ (full-each ns) ∙ ap full (joined-map (given accepts selects) ns)

module _ {T E : Type 0} (way : ParentNode T E → ℕ) where
  -- the way ends at one element
  pub at-same : (d : ℕ) (n : Layer T E) (t u : T) → IsAt way d n t → IsAt way d n u → t ≡ u
  at-same zero (layer.Leaf x) t u a b = a ∙ sym b
  at-same zero (layer.Parent p) t u a b = absurd a
  at-same (suc d) n t u a b = at-same d (layer_of (next_on way n)) t u a b

module _ {T E : Type 0} {IsPoint : List ℤ → Type 0} {v : Boxes E} {o : Objects T E} {d : Distances T} (laws : EnvelopeLaws IsPoint v) (ok : ObjectLaws v o) (near : DistanceLaws IsPoint v o d) (p : List ℤ) (is_point : IsPoint p) where
  pub point-lawful : IsLawful v o (λ e. v.contains_point e p) (λ t. d.contains_point t p)
  point-lawful t e vt ve says some = laws.merge_contains_point (o.box_of t) e p is_point (ok t vt) ve (near.contained t p is_point vt says)

  -- the search answers what a scan would
  pub search-is-scan : (h : ℕ) (ns : List (RTreeNode T E)) → AreWhole v o h ns
      → nat_lt (first_at v d p ns) (length ns) ≡ list_any (λ t. d.contains_point t p) (all_elements ns)
  search-is-scan h ns w =
      let accepts : E → Bool = λ e. v.contains_point e p in let selects : T → Bool = λ t. d.contains_point t p in
      full-all accepts selects ns
      ∙ ap full (all-each laws ok accepts selects point-lawful h (all-node laws ok accepts selects point-lawful h) ns w)
      ∙ any-filter selects (all_elements ns)
