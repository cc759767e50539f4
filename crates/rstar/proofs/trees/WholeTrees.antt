-- From what a tree keeps to what an insertion asks, and back; a tree of a root that was made elsewhere.
use Rattle.std.proofs.Common.{◌≡◌, ◌≢◌, ℕ, zero, suc, ◌<◌, List, [], ◌∷◌, length, max, min, ap, sym, subst, arith, ℤ, ◌+◌, ◌^◌, ◌≤◌}
use Rattle.std.specs.List.{AllByRecursion}
use Rattle.rstar_base.specs.Envelopes.{Boxes, EnvelopeLaws}
use Rattle.rstar_base.specs.Elements.{Objects, ObjectLaws}
use Rattle.rstar.specs.declared.node.RTreeNode.{RTreeNode}
use Rattle.rstar.specs.declared.node.ParentNode.{ParentNode}
use Rattle.rstar.specs.Nodes.{IsTree, IsElement, IsInner, AreWhole, children_of}
use Rattle.rstar.specs.Shapes.{AreTrees, IsAny, HasSize, IsSized}
use Rattle.rstar.specs.Heights.{levels_below}
use Rattle.rstar.specs.inside.ParentBounds.{HasAtMost, IsKeptInner, AreKept, IsKeptTree, IsSpare}
use Rattle.rstar.specs.declared.rtree.RTree.{RTree}
use Rattle.rstar.specs.Trees.{elements_in, IsWholeTree}
use Rattle.rstar.proofs.trees.Heights.{levels_are, at_levels}
use Rattle.rstar.proofs.trees.ByChildren.{is_parent, parent_of, IsParentOf-Parent}
use Rattle.rstar.proofs.inserting.Insertion.{trees_map, whole_of_kept}
use Rattle.rstar.proofs.lists.Items.{some_item}

module _ {T E : Type 0} (v : Boxes E) (o : Objects T E) (widest : ℕ) where
  pub all_kept : (h : ℕ) → ((n : RTreeNode T E) → IsTree (IsInner v o) (IsElement v o) h n → IsTree (HasAtMost widest) IsAny h n → IsTree (IsKeptInner v o widest) (IsElement v o) h n)
      → (ns : List (RTreeNode T E)) → AreWhole v o h ns → AreTrees (HasAtMost widest) IsAny h ns → AreKept v o widest h ns
  all_kept h one [] w r = tt
  all_kept h one (n ∷ ns) w r = (one n w.0 r.0, all_kept h one ns w.1 r.1)

  pub tree_kept : (h : ℕ) (n : RTreeNode T E) → IsTree (IsInner v o) (IsElement v o) h n → IsTree (HasAtMost widest) IsAny h n → IsTree (IsKeptInner v o widest) (IsElement v o) h n
  tree_kept zero n w r = w
  tree_kept (suc h) n w r =
      let p = is_parent _ n w in
      let q = parent_of _ p.0 (subst (IsTree (HasAtMost widest) IsAny (suc h)) p.1 r) in
      subst (IsTree (IsKeptInner v o widest) (IsElement v o) (suc h)) (sym p.1)
      (IsParentOf-Parent _ p.0 ((record { tight = p.2.0.0; narrow = q.0 }, some_item p.0.children.items p.2.0.1), all_kept h (tree_kept h) p.0.children.items p.2.1 q.1))

  some_child : (p : ParentNode T E) → IsKeptInner v o widest p → p.children.items ≢ []
  some_child p kept none = let long = ap length none in absurd (omega (arith, long, kept.1))

  -- whole trees within the bound, by the levels that their first leaf shows
  pub kept_at : (h n : ℕ) (ns : List (RTreeNode T E)) → n ≡ levels_below ns → AreWhole v o h ns → AreTrees (HasAtMost widest) IsAny h ns → AreKept v o widest n ns
  kept_at h n ns is w r = at_levels (IsKeptInner v o widest) (IsElement v o) some_child h n ns is (all_kept h (tree_kept h) ns w r)

  -- the levels of a kept tree
  pub levels_kept : (h : ℕ) (p : ParentNode T E) → IsKeptTree v o widest h p → h ≡ levels_below p.children.items
  levels_kept h p kept = sym (levels_are (IsKeptInner v o widest) (IsElement v o) some_child h p.children.items (some_child p kept.0) kept.1)

  -- what is kept of the bound
  pub narrow_of : (h : ℕ) (ns : List (RTreeNode T E)) → AreKept v o widest h ns → AreTrees (HasAtMost widest) IsAny h ns
  narrow_of = trees_map (λ p k. k.0.narrow) (λ t k. tt)

-- where there are levels there are nodes
pub some_below : {T E : Type 0} (ns : List (RTreeNode T E)) (n : ℕ) → n ≡ levels_below ns → 0 < n → 0 < length ns
some_below [] n is above = let zero : n ≡ 0 = is in absurd (omega (arith, zero, above))
some_below (m ∷ ms) n is above = omega arith

module _ {T E : Type 0} (min max : ℕ) (positive : 0 < min) where
  has_child : (p : ParentNode T E) → HasSize min max p → p.children.items ≢ []
  has_child p size none = let long = ap length none in absurd (omega (arith, long, size.0))

  -- sized trees, by the levels that their first leaf shows
  pub sized_at : (h n : ℕ) (ns : List (RTreeNode T E)) → n ≡ levels_below ns → AreTrees (HasSize min max) IsAny h ns → AreTrees (HasSize min max) IsAny n ns
  sized_at = at_levels (HasSize min max) IsAny has_child

pub sized_along : {T E : Type 0} (min max : ℕ) (a b : ParentNode T E) → children_of b ≡ children_of a → IsSized min max a → IsSized min max b
sized_along min max a b same s = let below = subst (AreTrees (HasSize min max) IsAny s.height) (sym same) s.below in search same

pub kept_root : {T D E P S X : Type 0} {IsPoint : List ℤ → Type 0} {v : Boxes E} {o : Objects T E} (laws : EnvelopeLaws IsPoint v) (ok : ObjectLaws v o) (max widest : ℕ) (tree : RTree T D E P S X) → IsKeptTree v o widest tree.levels tree.root
    → tree.size ≡ length (elements_in tree) → tree.levels < 2 ^ 64 → max ≤ widest → widest + 1 < 2 ^ 64 → tree.reserve.widest ≡ widest → AllByRecursion (IsSpare tree.reserve.widest) tree.reserve.spares.items → tree.reserve.overfull.items ≡ [] → IsWholeTree v o max tree
unfolding IsWholeTree
kept_root {v = v} {o = o} laws ok max widest tree kept count low wide fits is spares over = record {
  root_whole = record { height = tree.levels; tight = kept.0.0.tight; below = whole_of_kept laws ok widest tree.levels (children_of tree.root) kept.1 };
  counted = count;
  leveled = levels_kept v o widest tree.levels tree.root kept;
  low = low;
  wide = rw is wide;
  wide_fits = rw is fits;
  narrow = rw is kept.0.0.narrow;
  narrow_below = rw is (narrow_of v o widest tree.levels (children_of tree.root) kept.1);
  spares = spares;
  none_over = over;
}
