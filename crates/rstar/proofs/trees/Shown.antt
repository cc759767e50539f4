-- Trees that show the same nodes: what holds of one, by what it shows, holds of the other.
use Rattle.std.proofs.Common.{◌≡◌, ℕ, zero, suc, ◌+◌, ◌<◌, ◌≤◌, List, [], ◌∷◌, length, map, get_or, refl, sym, ap, ap₂, ◌∙◌, subst, ◌*◌, ℤ, flat_map, inl, inr}
use Rattle.std.specs.List.{AllByRecursion, All, AllPairs, Contains}
use Rattle.std.proofs.lemmas.List.{length-map, get_or_default, nil_from_length}
use Rattle.std.proofs.Math.ListN.{get_or-map}
use Rattle.rstar_base.specs.Envelopes.{Boxes}
use Rattle.rstar_base.specs.Elements.{Objects}
use Rattle.rstar_base.specs.Hulls.{hull}
use Rattle.rstar_base.specs.Slabs.{NoneAbove}
use Rattle.rstar.specs.declared.node.RTreeNode.{RTreeNode, Leaf, Parent', Row_of-RTreeNode, end_of-RTreeNode, more_of-RTreeNode}
use Rattle.rstar.specs.declared.node.ParentNode.{ParentNode}
use Rattle.rstar.specs.declared.rtree.RTree.{RTree}
use Rattle.rstar.specs.Nodes.{elements, elements_of, children_of, fold_tree, fold_row, joined, all_elements, envelopes, envelope_of, IsTree, IsLeafOf, IsParentOf, IsInner, IsElement}
use Rattle.rstar.specs.Shown.{shown, shown_root, leaf, parent, row_of, Shown, nodes_in, fold_shown, fold_shown_row}
use Rattle.rstar.specs.Trees.{IsUnchanged, IsWholeTree}
use Rattle.rstar.specs.Heights.{levels, levels_below, first_of}
use Rattle.rstar.specs.Shapes.{AreTrees, HasSize, IsAny, IsSized}
use Rattle.rstar.specs.inside.ParentBounds.{HasAtMost, IsSpare}
use Rattle.rstar.specs.Loaded.{IsParted, IsCut, IsCutAbove, HasSmallParent, IsLoadDepth, IsLoaded}
use Rattle.rstar.proofs.trees.ByChildren.{node-cases, shown-Leaf, shown-Parent, joined-map, is_leaf, is_parent, IsLeafOf-Leaf, IsParentOf-Parent}
use Rattle.rstar.proofs.joining.PairsByChildren.{nodes-row}

-- ---- what a node shows tells what it is

module _ {T E : Type 0} where
  below-alike : (p q : ParentNode T E) → shown_root q ≡ shown_root p → map shown (children_of q) ≡ map shown (children_of p)
  below-alike p q same =
      sym (nodes-row (map shown (children_of q))) ∙ ap below same ∙ nodes-row (map shown (children_of p)) where
        below : Shown T E → List (Shown T E)
        below (leaf t) = []
        below (parent e row) = nodes_in row

  leaf-alike : (R : T → Type 0) (n m : RTreeNode T E) → shown m ≡ shown n → IsLeafOf R n → IsLeafOf R m
  leaf-alike R n m same w =
      let (t, is, h) = is_leaf R n w in
      let told = same ∙ ap shown is ∙ shown-Leaf T E t in
      elim (node-cases m) [
        | inl a ↦
            let here = sym (ap shown a.1 ∙ shown-Leaf T E a.0) ∙ told in
            let element : t ≡ a.0 = cc in
            subst (IsLeafOf R) (sym a.1) (IsLeafOf-Leaf T E R a.0 (subst R element h))
        | inr a ↦ let here = sym (ap shown a.1 ∙ shown-Parent a.0) ∙ told in absurd cc
      ]

  -- what holds of a parent holds of one that shows the same, where it goes by what a parent shows
  parent-alike : (Q : ParentNode T E → Type 0) → ((p q : ParentNode T E) → shown_root q ≡ shown_root p → Q p → Q q)
      → (n m : RTreeNode T E) → shown m ≡ shown n → IsParentOf Q n → IsParentOf Q m
  parent-alike Q move n m same w =
      let (p, is, h) = is_parent Q n w in
      let told = same ∙ ap shown is ∙ shown-Parent p in
      elim (node-cases m) [
        | inl a ↦ let here = sym (ap shown a.1 ∙ shown-Leaf T E a.0) ∙ told in absurd cc
        | inr a ↦ subst (IsParentOf Q) (sym a.1) (IsParentOf-Parent Q a.0 (move p a.0 (sym (ap shown a.1 ∙ shown-Parent a.0) ∙ told) h))
      ]

-- a fold of what a node shows is a fold of the node
module _ {T E A : Type 0} (at_leaf : T → A) (at_parent : E → List A → A) where
  mutual
    unfolding shown fold_tree

    pub fold-shown : (n : RTreeNode T E) → fold_shown at_leaf at_parent (shown n) ≡ fold_tree at_leaf at_parent n
    fold-shown (Leaf t) = refl
    fold-shown (Parent' shape children envelope) = ap (at_parent envelope) (fold-shown-row children)

    fold-shown-row : {k : _} (row : Row_of-RTreeNode T E k)
        → fold_shown_row at_leaf at_parent (row_of (fold_row leaf (λ e below. parent e (row_of below)) row)) ≡ fold_row at_leaf at_parent row
    fold-shown-row end_of-RTreeNode = refl
    fold-shown-row (more_of-RTreeNode node rest) = ap₂ (λ a as'. a ∷ as') (fold-shown node) (fold-shown-row rest)

  folds-shown : (ns : List (RTreeNode T E)) → map (fold_tree at_leaf at_parent) ns ≡ map (fold_shown at_leaf at_parent) (map shown ns)
  folds-shown [] = refl
  folds-shown (n ∷ ns) = ap₂ (λ a as'. a ∷ as') (sym (fold-shown n)) (folds-shown ns)

  folds-alike : (ns ms : List (RTreeNode T E)) → map shown ms ≡ map shown ns → map (fold_tree at_leaf at_parent) ms ≡ map (fold_tree at_leaf at_parent) ns
  folds-alike ns ms same = folds-shown ms ∙ ap (map (fold_shown at_leaf at_parent)) same ∙ sym (folds-shown ns)

-- the elements that a node shows
abbrev shown_elements : {T E : Type 0} → Shown T E → List T
shown_elements n = fold_shown (λ t. t ∷ []) (λ e below. joined below) n

pub elements-row : {T E : Type 0} (ns : List (RTreeNode T E)) → all_elements ns ≡ flat_map shown_elements (map shown ns)
unfolding elements
elements-row ns = sym (joined-map elements ns) ∙ ap joined (folds-shown (λ t. t ∷ []) (λ e below. joined below) ns) ∙ joined-map shown_elements (map shown ns)

-- ---- lists of nodes that show the same

module _ {T E : Type 0} (ns ms : List (RTreeNode T E)) (same : map shown ms ≡ map shown ns) where
  as_long : length ms ≡ length ns
  as_long = sym (length-map ms shown) ∙ ap length same ∙ length-map ns shown

  shown-at : (k : ℕ) (d : RTreeNode T E) → shown (get_or ms k d) ≡ shown (get_or ns k d)
  shown-at k d = sym (get_or-map shown ms k d) ∙ ap (λ l. get_or l k (shown d)) same ∙ get_or-map shown ns k d

  all-elements-alike : all_elements ms ≡ all_elements ns
  all-elements-alike = elements-row ms ∙ ap (flat_map shown_elements) same ∙ sym (elements-row ns)

  all-envelopes-alike : flat_map envelopes ms ≡ flat_map envelopes ns
  unfolding envelopes
  all-envelopes-alike = sym (joined-map envelopes ms) ∙ ap joined (folds-alike _ _ ns ms same) ∙ joined-map envelopes ns

  levels-alike : levels_below ms ≡ levels_below ns
  unfolding levels
  levels-alike = ap first_of (folds-alike _ _ ns ms same)

  All-alike : (Q : RTreeNode T E → Type 0) → ((n m : RTreeNode T E) → shown m ≡ shown n → Q n → Q m) → All Q ns → All Q ms
  All-alike Q move all k d below = move _ _ (shown-at k d) (all k d (subst (λ l. k < l) as_long below))

  AllPairs-alike : (R : RTreeNode T E → RTreeNode T E → Type 0)
      → ((n n' m m' : RTreeNode T E) → shown m ≡ shown n → shown m' ≡ shown n' → R n n' → R m m') → AllPairs R ns → AllPairs R ms
  AllPairs-alike R move all i j d less below = move _ _ _ _ (shown-at i d) (shown-at j d) (all i j d less (subst (λ l. j < l) as_long below))

  Contains-alike : (n : RTreeNode T E) → Contains ns n → (m : RTreeNode T E) × Contains ms m × (shown m ≡ shown n)
  Contains-alike n has =
      let below : has.0 < length ms = subst (λ l. has.0 < l) (sym as_long) has.1 in
      (get_or ms has.0 n, (has.0, below, get_or_default ms has.0 _ n below), shown-at has.0 n ∙ ap shown has.2)

each-alike : {T E : Type 0} (Q : RTreeNode T E → Type 0) → ((n m : RTreeNode T E) → shown m ≡ shown n → Q n → Q m)
    → (ns ms : List (RTreeNode T E)) → map shown ms ≡ map shown ns → AllByRecursion Q ns → AllByRecursion Q ms
each-alike Q move ns [] same all = tt
each-alike Q move [] (m ∷ ms) same all = absurd cc
each-alike Q move (n ∷ ns) (m ∷ ms) same all =
    let one : shown m ≡ shown n = cc in
    let rest : map shown ms ≡ map shown ns = cc in
    (move n m one all.0, each-alike Q move ns ms rest all.1)

-- trees whose parents meet what goes by what a parent shows
module _ {T E : Type 0} (Q : ParentNode T E → Type 0) (R : T → Type 0) (move : (p q : ParentNode T E) → shown_root q ≡ shown_root p → Q p → Q q) where
  tree-alike : (h : ℕ) (n m : RTreeNode T E) → shown m ≡ shown n → IsTree Q R h n → IsTree Q R h m
  tree-alike zero n m same w = leaf-alike R n m same w
  tree-alike (suc h) n m same w = parent-alike (λ p. Q p × AllByRecursion (IsTree Q R h) (children_of p))
      (λ p q roots k. (move p q roots k.0, each-alike (IsTree Q R h) (tree-alike h) (children_of p) (children_of q) (below-alike p q roots) k.1)) n m same w

  trees-alike : (h : ℕ) (ns ms : List (RTreeNode T E)) → map shown ms ≡ map shown ns → AreTrees Q R h ns → AreTrees Q R h ms
  trees-alike h = each-alike (IsTree Q R h) (tree-alike h)

-- ---- node sizes, and how a load cut them

module _ {T E : Type 0} where
  length-alike : (p q : ParentNode T E) → shown_root q ≡ shown_root p → length (children_of q) ≡ length (children_of p)
  length-alike p q same = as_long (children_of p) (children_of q) (below-alike p q same)

  elements_of-alike : (p q : ParentNode T E) → shown_root q ≡ shown_root p → elements_of q ≡ elements_of p
  elements_of-alike p q same = all-elements-alike (children_of p) (children_of q) (below-alike p q same)

  elements-alike : (n m : RTreeNode T E) → shown m ≡ shown n → elements m ≡ elements n
  unfolding elements
  elements-alike n m same = sym (fold-shown (λ t. t ∷ []) (λ e below. joined below) m) ∙ ap shown_elements same ∙ fold-shown (λ t. t ∷ []) (λ e below. joined below) n

  module _ (key : T → ℕ → ℤ) (most axes : ℕ) where
    cut-once : (p q : ParentNode T E) → shown_root q ≡ shown_root p → IsCut key most axes p → IsCut key most axes q
    cut-once p q same cut =
        let below = below-alike p q same in
        let all = elements_of-alike p q same in record {
          many = subst (λ (l : List T). most < length l) (sym all) cut.many;
          halves = All-alike (children_of p) (children_of q) below (λ n. 2 * length (elements n) ≤ length (elements_of q) + 1)
              (λ n m shows h. subst (λ (l : List T). 2 * length l ≤ length (elements_of q) + 1) (sym (elements-alike n m shows)) h)
              (subst (λ (l : List T). All (λ n. 2 * length (elements n) ≤ length l + 1) (children_of p)) (sym all) cut.halves);
          few = rw (length-alike p q same) cut.few;
          parted = AllPairs-alike (children_of p) (children_of q) below (IsParted key axes)
              (λ n n' m m' shows shows' h. subst (λ (l : List T). (axis : ℕ) × (axis < axes) × NoneAbove (λ t. key t axis) l (elements m)) (sym (elements-alike n' m' shows'))
              (subst (λ (l : List T). (axis : ℕ) × (axis < axes) × NoneAbove (λ t. key t axis) (elements n') l) (sym (elements-alike n m shows)) h))
              cut.parted;
        }

    cut-alike : (h : ℕ) (p q : ParentNode T E) → shown_root q ≡ shown_root p → IsCutAbove key most axes h p → IsCutAbove key most axes h q
    cut-alike zero p q same cut = each-alike (IsLeafOf IsAny) (leaf-alike IsAny) (children_of p) (children_of q) (below-alike p q same) cut
    cut-alike (suc h) p q same cut = (
      cut-once p q same cut.0,
      each-alike (IsParentOf (IsCutAbove key most axes h)) (parent-alike (IsCutAbove key most axes h) (cut-alike h)) (children_of p) (children_of q) (below-alike p q same) cut.1,
    )

  small-alike : (most h : ℕ) (p q : ParentNode T E) → shown_root q ≡ shown_root p → HasSmallParent most h p → HasSmallParent most h q
  small-alike most zero p q same small = rw (length-alike p q same) small
  small-alike most (suc h) p q same small =
      let there = Contains-alike (children_of p) (children_of q) (below-alike p q same) small.0 small.1 in
      (there.0, there.1, parent-alike (HasSmallParent most h) (small-alike most h) small.0 there.0 there.2 small.2)

  pub root-sized : (min max : ℕ) (p q : ParentNode T E) → shown_root q ≡ shown_root p → IsSized min max p → IsSized min max q
  root-sized min max p q same sized = record {
    height = sized.height;
    most = rw (length-alike p q same) sized.most;
    below = trees-alike (HasSize min max) IsAny (λ a b shows size. (rw (length-alike a b shows) size.0, rw (length-alike a b shows) size.1)) sized.height (children_of p) (children_of q) (below-alike p q same) sized.below;
  }

  pub root-loaded : (v : Boxes E) (o : Objects T E) (most axes : ℕ) (p q : ParentNode T E) → shown_root q ≡ shown_root p → IsLoaded v o most axes p → IsLoaded v o most axes q
  root-loaded v o most axes p q same loaded = record {
    levels = loaded.levels;
    cut = cut-alike (λ t axis. v.axis_key (o.box_of t) axis) most axes loaded.levels p q same loaded.cut;
    small = small-alike most loaded.levels p q same loaded.small;
    depth = subst (λ (l : List T). IsLoadDepth most axes (length l) loaded.levels) (sym (elements_of-alike p q same)) loaded.depth;
  }

-- ---- whole trees

inner-alike : {T E : Type 0} (v : Boxes E) (o : Objects T E) (p q : ParentNode T E) → shown_root q ≡ shown_root p → IsInner v o p → IsInner v o q
inner-alike v o p q same inner =
    let envelope : envelope_of q ≡ envelope_of p = cc in
    (envelope ∙ inner.0 ∙ ap (hull v o.box_of) (sym (elements_of-alike p q same)), λ none. inner.1 (nil_from_length (children_of p) (sym (length-alike p q same) ∙ ap length none)))

-- a tree over a root that shows the same
pub whole-alike : {T D E P S X : Type 0} (v : Boxes E) (o : Objects T E) (max : ℕ) (old new : RTree T D E P S X) → IsWholeTree v o max old → shown_root new.root ≡ shown_root old.root
    → new.size ≡ old.size → new.levels ≡ old.levels → new.reserve.widest ≡ old.reserve.widest → new.reserve.spares.items ≡ [] → new.reserve.overfull.items ≡ [] → IsUnchanged old new × IsWholeTree v o max new
unfolding IsWholeTree
whole-alike v o max old new whole same size deep wide none over =
    let h = whole.root_whole.height in
    let below = below-alike old.root new.root same in
    let elements = elements_of-alike old.root new.root same in
    let envelope : envelope_of new.root ≡ envelope_of old.root = cc in (
      record { shown = same; size = size; elements = elements; envelopes = ap₂ (λ e es. e ∷ es) envelope (all-envelopes-alike (children_of old.root) (children_of new.root) below) },
      record {
        root_whole = record {
          height = h;
          tight = envelope ∙ whole.root_whole.tight ∙ ap (hull v o.box_of) (sym elements);
          below = trees-alike (IsInner v o) (IsElement v o) (inner-alike v o) h (children_of old.root) (children_of new.root) below whole.root_whole.below;
        };
        counted = size ∙ whole.counted ∙ ap length (sym elements);
        leveled = deep ∙ whole.leveled ∙ sym (levels-alike (children_of old.root) (children_of new.root) below);
        low = rw deep whole.low;
        wide = rw wide whole.wide;
        wide_fits = rw wide whole.wide_fits;
        narrow = rw (wide, length-alike old.root new.root same) whole.narrow;
        narrow_below = rw wide (trees-alike (HasAtMost old.reserve.widest) IsAny (λ p q shows few. rw (length-alike p q shows) few) h (children_of old.root) (children_of new.root) below whole.narrow_below);
        spares = subst (AllByRecursion (IsSpare new.reserve.widest)) (sym none) tt;
        none_over = over;
      },
    )
