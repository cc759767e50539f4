-- The way down to the first element that a question finds.
use Rattle.std.proofs.Common.{◌≡◌, ℕ, zero, suc, ◌-◌, ◌<◌, nat_lt, Bool, ◌&&◌, not, length, refl, ap, sym, ◌∙◌, subst, arith}
use Rattle.std.proofs.lemmas.List.{length-map}
use Rattle.rstar.specs.declared.node.RTreeNode.{RTreeNode, Leaf, Parent}
use Rattle.rstar.specs.declared.node.RTreeNode.TheVariants.{outs-Parent, outs-Leaf}
use Rattle.rstar.specs.declared.node.RTreeNode.TheOpen as layer
use Rattle.rstar.specs.declared.node.ParentNode.{ParentNode}
use Rattle.rstar.specs.Nodes.{Layer, layer_of, children_of, fold_tree}
use lib.Dec.{T as Holds, eqb, eqb-suc-zero}
use Rattle.rstar.specs.inside.WaysDown.{finds, first_finding, IsLeaf, IsParent, child_at, with_leaf, with_parent, with_child, HasWay, next_on, with_next, Leads, put_at, IsAt, change_at}
use Rattle.rstar.proofs.trees.ByChildren.{fold_tree-Parent}

module _ (T E : Type 0) (accepts : E → Bool) (selects : T → Bool) where
  pub finds-Leaf : (t : T) → finds accepts selects (Leaf t) ≡ selects t
  unfolding finds fold_tree
  finds-Leaf t = refl

  pub finds-Parent : (p : ParentNode T E) → finds accepts selects (Parent p) ≡ (accepts p.envelope && nat_lt (first_finding accepts selects (children_of p)) (length (children_of p)))
  unfolding finds
  finds-Parent p = fold_tree-Parent _ _ p ∙ ap (λ (n : ℕ). accepts p.envelope && nat_lt (first_finding accepts selects (children_of p)) n) (length-map (children_of p) (finds accepts selects))

-- ---- one step of the way

module _ {A E : Type 0} (way : ParentNode A E → ℕ) where
  pub leaf_leads : (d : ℕ) (n : Layer A E) → Holds (eqb d 0) → Leads way d n → IsLeaf n
  leaf_leads zero n t h = h
  leaf_leads (suc d) n t h = absurd (subst Holds (eqb-suc-zero d) t)

  pub leaf_put : (d : ℕ) (n : Layer A E) → Holds (eqb d 0) → with_leaf n ≡ put_at way d n
  leaf_put zero n t = refl
  leaf_put (suc d) n t = absurd (subst Holds (eqb-suc-zero d) t)

  pub leaf_at : (d : ℕ) (n : RTreeNode A E) (t : A) → Holds (eqb d 0) → Leaf t ≡ n → IsAt way d (layer_of n) t
  leaf_at zero n t h e = rw (← e, outs-Leaf)
  leaf_at (suc d) n t h e = absurd (subst Holds (eqb-suc-zero d) h)

  -- the rest of a way that is not at its end, from the node n
  pub record Down (d : ℕ) (n : RTreeNode A E) : Type 0 where
    pub below : ℕ
    pub is : d - 1 ≡ below
    pub less : below < d
    pub above_zero : 0 < d
    pub parent : IsParent (layer_of n)
    pub has : (p : ParentNode A E) → Parent p ≡ n → way p < length p.children.items
    pub leads : (p : ParentNode A E) (c : RTreeNode A E) → Parent p ≡ n → c ≡ child_at p (way p) → Leads way below (layer_of c)
    pub put : (p : ParentNode A E) (c : RTreeNode A E) → Parent p ≡ n → c ≡ child_at p (way p)
        → (λ u. with_parent (layer_of n) (with_child p (way p) (put_at way below (layer_of c) u))) ≡ put_at way d (layer_of n)
    pub at : (p : ParentNode A E) (c : RTreeNode A E) (t : A) → Parent p ≡ n → c ≡ child_at p (way p) → IsAt way below (layer_of c) t → IsAt way d (layer_of n) t

  has_parent : (n : Layer A E) → HasWay way n → IsParent n
  has_parent (layer.Leaf t) h = absurd h
  has_parent (layer.Parent p) h = tt

  is_opened : {n : RTreeNode A E} (p : ParentNode A E) → Parent p ≡ n → layer_of n ≡ layer.Parent p
  is_opened p e = sym (ap (λ m. layer_of m) e) ∙ outs-Parent p

  pub down : (d : ℕ) (n : RTreeNode A E) → Holds (not (eqb d 0)) → Leads way d (layer_of n) → Down d n
  down zero n t h = absurd t
  down (suc m) n t h = record {
    below = m;
    is = omega arith;
    less = omega arith;
    above_zero = omega arith;
    parent = has_parent _ h.0;
    has = λ p e. rw (is_opened p e) at h.0;
    leads = λ p c e f. rw f (rw (is_opened p e) at h.1);
    put = λ p c e f. rw (is_opened p e, f);
    at = λ p c t e f g. rw (is_opened p e) (rw f at g);
  }

  -- another element there, made from the one that stands there
  pub put_changes : (f : A → A) (d : ℕ) (n : Layer A E) (t : A) → IsAt way d n t → put_at way d n (f t) ≡ change_at way f d n
  put_changes f zero (layer.Leaf u) t at = ap (λ x. Leaf (f x)) at
  put_changes f zero (layer.Parent p) t at = absurd at
  put_changes f (suc d) n t at = ap (λ m. with_next way n m) (put_changes f d (layer_of (next_on way n)) t at)
