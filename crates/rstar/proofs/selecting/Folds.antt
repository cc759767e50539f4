-- Proofs by recursion on a node, and on two lists at once.
use Rattle.std.proofs.Common.{◌≡◌, ℕ, zero, suc, List, [], ◌∷◌, ◌++◌, ap, sym, ◌∙◌, subst}
use Rattle.std.specs.List.{AllByRecursion, AllZip, flat_map}
use Rattle.rstar.specs.declared.node.RTreeNode.{RTreeNode, Leaf, Parent, Parent', Row_of-RTreeNode, end_of-RTreeNode, more_of-RTreeNode}
use Rattle.rstar.specs.declared.node.ParentNode.{ParentNode}
use Rattle.rstar.specs.Nodes.{fold_tree, fold_row, children_of, IsTree}
use Rattle.rstar.proofs.trees.ByChildren.{is_leaf, is_parent}

pub zip-fold : {A B : Type 0} (R : A → B → Type 0) (P : List A → List B → Type 0) → P [] []
    → ((x : A) (y : B) (xs : List A) (ys : List B) → R x y → P xs ys → P (x ∷ xs) (y ∷ ys)) → (xs : List A) (ys : List B) → AllZip R xs ys → P xs ys
zip-fold R P none more [] [] w = none
zip-fold R P none more [] (y ∷ ys) w = absurd w
zip-fold R P none more (x ∷ xs) [] w = absurd w
zip-fold R P none more (x ∷ xs) (y ∷ ys) w = more x y xs ys w.0 (zip-fold R P none more xs ys w.1)

-- lists joined, where F of lists joined is the same of each
pub flat_map-each : {N A B : Type 0} (F : List A → List B) → F [] ≡ [] → ((xs ys : List A) → F (xs ++ ys) ≡ F xs ++ F ys) → (f : N → List B) (g : N → List A)
    → (P : N → Type 0) → ((n : N) → P n → f n ≡ F (g n)) → (ns : List N) → AllByRecursion P ns → flat_map f ns ≡ F (flat_map g ns)
flat_map-each F none append f g P one [] w = sym none
flat_map-each F none append f g P one (n ∷ ns) w =
    ap (λ l. l ++ flat_map f ns) (one n w.0) ∙ ap (λ l. F (g n) ++ l) (flat_map-each F none append f g P one ns w.1) ∙ sym (append (g n) (flat_map g ns))

-- two folds of one node
module _ {T E A B : Type 0} (R : A → B → Type 0) (leaf : T → A) (leaf' : T → B) (parent : E → List A → A) (parent' : E → List B → B)
    (at_leaf : (t : T) → R (leaf t) (leaf' t)) (at_parent : (e : E) (xs : List A) (ys : List B) → AllZip R xs ys → R (parent e xs) (parent' e ys)) where
  mutual
    unfolding fold_tree

    pub both-folds : (n : RTreeNode T E) → R (fold_tree leaf parent n) (fold_tree leaf' parent' n)
    both-folds (Leaf t) = at_leaf t
    both-folds (Parent' shape children envelope) = at_parent envelope _ _ (both-rows children)

    both-rows : {k : _} (row : Row_of-RTreeNode T E k) → AllZip R (fold_row leaf parent row) (fold_row leaf' parent' row)
    both-rows end_of-RTreeNode = tt
    both-rows (more_of-RTreeNode node rest) = (both-folds node, both-rows rest)

-- a node whose leaves lie h levels below
module _ {T E : Type 0} (Q : ParentNode T E → Type 0) (R : T → Type 0) (P : ℕ → RTreeNode T E → Type 0) (at_leaf : (t : T) → R t → P 0 (Leaf t))
    (at_parent : (h : ℕ) → ((n : RTreeNode T E) → IsTree Q R h n → P h n) → (p : ParentNode T E) → Q p → AllByRecursion (IsTree Q R h) (children_of p) → P (suc h) (Parent p)) where
  pub by_height : (h : ℕ) (n : RTreeNode T E) → IsTree Q R h n → P h n
  by_height zero n w = let l = is_leaf R n w in subst (P 0) (sym l.1) (at_leaf l.0 l.2)
  by_height (suc h) n w = let p = is_parent _ n w in subst (P (suc h)) (sym p.1) (at_parent h (by_height h) p.0 p.2.0 p.2.1)
