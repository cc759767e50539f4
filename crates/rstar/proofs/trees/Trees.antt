-- Whole trees: their elements, and that their envelopes are tight.
use Rattle.std.proofs.Common.{◌≡◌, ℕ, ℤ, zero, suc, List, [], ◌∷◌, refl, ap, sym, ◌∙◌, subst}
use Rattle.std.specs.List.{AllByRecursion}
use Rattle.rstar_base.specs.Envelopes.{Boxes, EnvelopeLaws}
use Rattle.rstar_base.specs.Elements.{Objects, ObjectLaws}
use Rattle.rstar_base.specs.Hulls.{hull}
use Rattle.rstar_base.proofs.Lists.{all-append, all_map}
use Rattle.rstar_base.proofs.Hulls.{hull-append, hull-single}
use Rattle.rstar.specs.declared.node.RTreeNode.{RTreeNode}
use Rattle.rstar.specs.Nodes.{elements, all_elements, node_box, IsTree, IsElement, IsInner, AreWhole}
use Rattle.rstar.proofs.trees.ByChildren.{is_leaf, is_parent, elements-Leaf, elements-Parent, node_box-Leaf, node_box-Parent}

module _ {T E : Type 0} (v : Boxes E) (o : Objects T E) where
  each_sound : (Q : RTreeNode T E → Type 0) → ((n : RTreeNode T E) → Q n → AllByRecursion (IsElement v o) (elements n))
      → (ns : List (RTreeNode T E)) → AllByRecursion Q ns → AllByRecursion (IsElement v o) (all_elements ns)
  each_sound Q one [] w = tt
  each_sound Q one (n ∷ ns) w = all-append (IsElement v o) (elements n) (all_elements ns) (one n w.0) (each_sound Q one ns w.1)

  -- a whole node holds elements
  pub sound : (h : ℕ) (n : RTreeNode T E) → IsTree (IsInner v o) (IsElement v o) h n → AllByRecursion (IsElement v o) (elements n)
  sound zero n w =
      let l = is_leaf (IsElement v o) n w in
      subst (λ (ts : List T). AllByRecursion (IsElement v o) ts) (sym (ap elements l.1 ∙ elements-Leaf T E l.0)) (l.2, tt)
  sound (suc h) n w =
      let p = is_parent _ n w in
      subst (λ (ts : List T). AllByRecursion (IsElement v o) ts) (sym (ap elements p.1 ∙ elements-Parent p.0))
      (each_sound (IsTree (IsInner v o) (IsElement v o) h) (sound h) p.0.children.items p.2.1)

  pub all_sound : (h : ℕ) (ns : List (RTreeNode T E)) → AreWhole v o h ns → AllByRecursion (IsElement v o) (all_elements ns)
  all_sound h = each_sound (IsTree (IsInner v o) (IsElement v o) h) (sound h)

module _ {T E : Type 0} {IsPoint : List ℤ → Type 0} {v : Boxes E} {o : Objects T E} (laws : EnvelopeLaws IsPoint v) (ok : ObjectLaws v o) where
  pub values-of : (ts : List T) → AllByRecursion (IsElement v o) ts → AllByRecursion (λ t. v.IsValue (o.box_of t)) ts
  values-of = all_map (IsElement v o) (λ t. v.IsValue (o.box_of t)) (λ t h. ok t h.0)

  module _ where
    -- a whole node's envelope is tight
    pub box_is_hull : (h : ℕ) (n : RTreeNode T E) → IsTree (IsInner v o) (IsElement v o) h n → node_box o.box_of n ≡ hull v o.box_of (elements n)
    box_is_hull zero n w =
        let l = is_leaf (IsElement v o) n w in
        ap (node_box o.box_of) l.1 ∙ node_box-Leaf T E o.box_of l.0 ∙ sym (hull-single laws o.box_of l.0 (ok l.0 l.2.0))
        ∙ ap (hull v o.box_of) (sym (ap elements l.1 ∙ elements-Leaf T E l.0))
    box_is_hull (suc h) n w =
        let p = is_parent _ n w in
        ap (node_box o.box_of) p.1 ∙ node_box-Parent o.box_of p.0 ∙ p.2.0.0
        ∙ ap (hull v o.box_of) (sym (ap elements p.1 ∙ elements-Parent p.0))

    -- the merge of whole nodes' envelopes is that of their elements' envelopes
    pub merged_is_hull : (h : ℕ) (ns : List (RTreeNode T E)) → AreWhole v o h ns → hull v (node_box o.box_of) ns ≡ hull v o.box_of (all_elements ns)
    merged_is_hull h [] w = refl
    merged_is_hull h (n ∷ ns) w =
        ap (λ e. v.merge e (hull v (node_box o.box_of) ns)) (box_is_hull h n w.0)
        ∙ ap (v.merge (hull v o.box_of (elements n))) (merged_is_hull h ns w.1)
        ∙ sym (hull-append laws o.box_of (elements n) (all_elements ns) (values-of (elements n) (sound v o h n w.0)) (values-of (all_elements ns) (all_sound v o h ns w.1)))
