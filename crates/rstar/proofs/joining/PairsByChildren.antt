-- What a definition over a pair of nodes says of leaves, and of what comes after them.
use Rattle.std.proofs.Common.{◌≡◌, ◌≢◌, ℕ, zero, suc, ◌+◌, ◌≤◌, Bool, true, false, List, [], ◌∷◌, ◌++◌, map, flat_map, sum_by, if◌then◌else◌, refl, ap, sym, ◌∙◌, subst, arith, append-nil, length, inl, inr, ◌⊎◌, append_assoc, sum}
use Rattle.std.proofs.lemmas.Bool.{true≢false}
use Rattle.std.proofs.lemmas.List.Sums.{sum-map}
use Rattle.std.proofs.lemmas.List.{map-append, map-id, nil_from_length}
use Rattle.std.specs.List.{AllByRecursion}
use Rattle.std.proofs.lemmas.List.Folds.{flat_map-map}
use Rattle.std.proofs.lemmas.Simd.{map-map}
use Rattle.rstar.specs.declared.node.RTreeNode.{RTreeNode, Leaf, Parent}
use Rattle.rstar.specs.declared.node.RTreeNode.TheVariants.{outs-Parent, outs-Leaf}
use Rattle.rstar.specs.declared.node.ParentNode.{ParentNode}
use Rattle.rstar_base.proofs.Lists.{all-append, all_map}
use Rattle.rstar.specs.Nodes.{children_of, fold_tree, total, reach, given, node_box, is_leaf_node, elements, all_elements, IsTree}
use Rattle.rstar.specs.Lists.{product}
use Rattle.rstar.specs.Meets.{opened_to, next_nodes, next_shown, shown_box, count_shown, meet_shown, meet_of_shown, both_leaves, count_parents, meet, pairs_at, opens_at, all_pairs, all_opens}
use Rattle.rstar.specs.Shown.{Shown, parent, nodes_in, row_of, fold_shown, fold_shown_row, shown}
use Rattle.rstar.specs.inside.PairWalks.{row_steps, all_steps, steps_at, steps_beside}
use Rattle.rstar.proofs.trees.ByChildren.{by_node, is_leaf, is_parent, elements-Parent, fold_tree-Parent, given-Parent, reach-Parent, node_box-Leaf, node_box-Parent, shown-Leaf, shown-Parent, total-map}

-- ---- products

-- a pair, of known types
abbrev pub the_pair : {A B : Type 0} → A → B → A × B
the_pair a b = (a, b)

product-map : {A B C D : Type 0} (f : A → C) (g : B → D) (xs : List A) (ys : List B)
    → product (map f xs) (map g ys) ≡ map (λ (p : A × B). the_pair (f p.0) (g p.1)) (product xs ys)
product-map f g [] ys = refl
product-map {A} {B} f g (x ∷ xs) ys =
    let row = map-map (λ y. the_pair (f x) y) g ys ∙ sym (map-map (λ (p : A × B). the_pair (f p.0) (g p.1)) (λ y. the_pair x y) ys) in
    (λ i. row i ++ product-map f g xs ys i)
    ∙ sym (map-append (λ (p : A × B). the_pair (f p.0) (g p.1)) (map (λ y. the_pair x y) ys) (product xs ys))

-- the same where the right list stays
product-map-left : {A B C : Type 0} (f : A → C) (xs : List A) (ys : List B) → product (map f xs) ys ≡ map (λ (p : A × B). the_pair (f p.0) p.1) (product xs ys)
product-map-left f xs ys = ap (product (map f xs)) (sym (map-id ys)) ∙ product-map f (λ y. y) xs ys

pub product-rows : {A B : Type 0} (xs xs' : List A) (ys : List B) → product (xs ++ xs') ys ≡ product xs ys ++ product xs' ys
product-rows [] xs' ys = refl
product-rows (x ∷ xs) xs' ys = ap (λ l. map (λ y. the_pair x y) ys ++ l) (product-rows xs xs' ys) ∙ sym (append_assoc (map (λ y. the_pair x y) ys) (product xs ys) (product xs' ys))

pub product-none : {A B : Type 0} (xs : List A) → product {B = B} xs [] ≡ []
product-none [] = refl
product-none (x ∷ xs) = product-none xs

-- what holds of each pair of two lists
pub all-product : {A B : Type 0} (P : A × B → Type 0) (xs : List A) (ys : List B)
    → AllByRecursion (λ x. AllByRecursion (λ y. P (x, y)) ys) xs → AllByRecursion P (product xs ys)
all-product P [] ys all = tt
all-product {A} {B} P (x ∷ xs) ys all = all-append P (map (λ y. the_pair x y) ys) (product xs ys) (row ys all.0) (all-product P xs ys all.1) where
  row : (zs : List B) → AllByRecursion (λ z. P (x, z)) zs → AllByRecursion P (map (λ z. the_pair x z) zs)
  row [] all = tt
  row (z ∷ zs) all = (all.0, row zs all.1)

pub each-product : {A B : Type 0} (Q : A → Type 0) (R : B → Type 0) (P : A × B → Type 0) → ((x : A) (y : B) → Q x → R y → P (x, y))
    → (xs : List A) (ys : List B) → AllByRecursion Q xs → AllByRecursion R ys → AllByRecursion P (product xs ys)
each-product Q R P f xs ys qs rs = all-product P xs ys (all_map Q _ (λ x q. all_map R _ (λ y r. f x y q r) ys rs) xs qs)

pub sum_by-map : {A B : Type 0} (f : A → B) (g : B → ℕ) (xs : List A) → sum_by g (map f xs) ≡ sum_by (λ x. g (f x)) xs
sum_by-map f g xs = sym (sum-map g (map f xs)) ∙ ap sum (map-map g f xs) ∙ sum-map (λ x. g (f x)) xs

-- a row of a product
pub flat_map-row : {A B C : Type 0} (f : A × B → List C) (x : A) (ys : List B) → flat_map f (product (x ∷ []) ys) ≡ flat_map (λ y. f (x, y)) ys
flat_map-row f x ys = ap (flat_map f) (append-nil (map (λ y. the_pair x y) ys)) ∙ flat_map-map f (λ y. the_pair x y) ys

pub sum_by-row : {A B : Type 0} (f : A × B → ℕ) (x : A) (ys : List B) → sum_by f (product (x ∷ []) ys) ≡ sum_by (λ y. f (x, y)) ys
sum_by-row f x ys = ap (sum_by f) (append-nil (map (λ y. the_pair x y) ys)) ∙ sum_by-map (λ y. the_pair x y) f ys

map-flat_map : {A B C : Type 0} (h : B → C) (g : A → List B) (xs : List A) → map h (flat_map g xs) ≡ flat_map (λ x. map h (g x)) xs
map-flat_map h g [] = refl
map-flat_map h g (x ∷ xs) = map-append h (g x) (flat_map g xs) ∙ ap (λ l. map h (g x) ++ l) (map-flat_map h g xs)

-- the values of a product of functions and what they are applied to
pub flat_map-applied : {A B C : Type 0} (f : A → B → List C) (xs : List A) (ys : List B) → flat_map (λ (p : (B → List C) × B). p.0 p.1) (product (map f xs) ys) ≡ flat_map (λ (p : A × B). f p.0 p.1) (product xs ys)
flat_map-applied f xs ys = ap (flat_map (λ p. p.0 p.1)) (product-map-left f xs ys) ∙ flat_map-map (λ p. p.0 p.1) (λ (p : _ × _). the_pair (f p.0) p.1) (product xs ys)

pub sum_by-applied : {A B : Type 0} (f : A → B → ℕ) (xs : List A) (ys : List B) → sum_by (λ (p : (B → ℕ) × B). p.0 p.1) (product (map f xs) ys) ≡ sum_by (λ (p : A × B). f p.0 p.1) (product xs ys)
sum_by-applied f xs ys = ap (sum_by (λ p. p.0 p.1)) (product-map-left f xs ys) ∙ sum_by-map (λ (p : _ × _). the_pair (f p.0) p.1) (λ p. p.0 p.1) (product xs ys)

-- the sum over a product of what two lists are seen as
sum_by-seen : {A B C D : Type 0} (f : A → C) (g : B → D) (h : C → D → ℕ) (xs : List A) (ys : List B) → sum_by (λ (p : C × D). h p.0 p.1) (product (map f xs) (map g ys)) ≡ sum_by (λ (p : A × B). h (f p.0) (g p.1)) (product xs ys)
sum_by-seen {A} {B} {C} {D} f g h xs ys =
    ap (sum_by (λ (p : C × D). h p.0 p.1)) (product-map f g xs ys)
    ∙ sum_by-map (λ (p : A × B). the_pair (f p.0) (g p.1)) (λ (p : C × D). h p.0 p.1) (product xs ys)

pub all_steps-applied : {A B : Type 0} (f : A → B → ℕ) (xs : List A) (ys : List B) → all_steps (λ (b : B → ℕ) n. b n) (map f xs) ys ≡ all_steps f xs ys
all_steps-applied f xs ys = ap (λ n. 1 + n) (ap total (map-map (λ (b : _ → ℕ). row_steps (λ (b : _ → ℕ) n. b n) b ys) f xs))

-- ---- what a row shows

pub nodes-row : {T E : Type 0} (ns : List (Shown T E)) → nodes_in (row_of ns) ≡ ns
nodes-row [] = refl
nodes-row (n ∷ ns) = ap (λ (l : List (Shown _ _)). n ∷ l) (nodes-row ns)

pub folded-row : {T E A : Type 0} (at_leaf : T → A) (at_parent : E → List A → A) (ns : List (Shown T E)) → fold_shown_row at_leaf at_parent (row_of ns) ≡ map (fold_shown at_leaf at_parent) ns
folded-row at_leaf at_parent [] = refl
folded-row {A = A} at_leaf at_parent (n ∷ ns) = ap (λ (l : List A). fold_shown at_leaf at_parent n ∷ l) (folded-row at_leaf at_parent ns)

-- ---- what comes after a node

module _ (T E : Type 0) where
  pub opened_to-Leaf : (t : T) → opened_to {E = E} (Leaf t) ≡ Leaf t ∷ []
  unfolding opened_to
  opened_to-Leaf t = ap (next_nodes (Leaf t)) (outs-Leaf t)

module _ {T E : Type 0} where
  pub opened_to-Parent : (p : ParentNode T E) → opened_to (Parent p) ≡ children_of p
  unfolding opened_to
  opened_to-Parent p = ap (next_nodes (Parent p)) (outs-Parent p)

  pub is_leaf-Parent : (p : ParentNode T E) → is_leaf_node (Parent p) ≡ false
  unfolding is_leaf_node
  is_leaf-Parent p = fold_tree-Parent _ _ p

  count_parents-Parent : (accepts : E → Bool) (p : ParentNode T E) → count_parents accepts (Parent p) ≡ (if accepts p.envelope then 1 else 0) + total (map (count_parents accepts) (children_of p))
  unfolding count_parents
  count_parents-Parent accepts p =
      ap (count_shown accepts) (shown-Parent p)
      ∙ ap (λ (below : List ℕ). (if accepts p.envelope then 1 else 0) + total below) (folded-row (λ t. 0) (λ e below. (if accepts e then 1 else 0) + total below) (map shown (children_of p)))
      ∙ ap (λ (n : ℕ). (if accepts p.envelope then 1 else 0) + n) (ap total (map-map (count_shown accepts) shown (children_of p)))

  -- what a node shows has the same envelope, and what it is opened to comes after it
  pub shown-box : (box_of : T → E) (n : RTreeNode T E) → shown_box box_of (shown n) ≡ node_box box_of n
  shown-box box_of = by_node (λ (n : RTreeNode T E). shown_box box_of (shown n) ≡ node_box box_of n)
      (λ t. ap (shown_box box_of) (shown-Leaf T E t) ∙ sym (node_box-Leaf T E box_of t))
      (λ p. ap (shown_box box_of) (shown-Parent p) ∙ sym (node_box-Parent box_of p))

  shown-next : (n : RTreeNode T E) → next_shown (shown n) ≡ map shown (opened_to n)
  shown-next = by_node (λ (n : RTreeNode T E). next_shown (shown n) ≡ map shown (opened_to n))
      (λ t. ap next_shown (shown-Leaf T E t) ∙ sym (ap (map shown) (opened_to-Leaf T E t) ∙ ap (λ s. s ∷ []) (shown-Leaf T E t)))
      (λ p. ap next_shown (shown-Parent p) ∙ nodes-row (map shown (children_of p)) ∙ sym (ap (map shown) (opened_to-Parent p)))

-- what comes after a node holds the same elements, and lies one level lower, but for a leaf
pub whole-opened : {T E : Type 0} (Q : ParentNode T E → Type 0) (R : T → Type 0) (m h : ℕ) (n : RTreeNode T E) → h ≤ m + 1 → IsTree Q R h n
    → (k : ℕ) × (k ≤ m) × AllByRecursion (IsTree Q R k) (opened_to n) × (all_elements (opened_to n) ≡ elements n)
whole-opened {T} {E} Q R m zero n le w =
    let l = is_leaf R n w in
    let alone : opened_to n ≡ n ∷ [] = ap opened_to l.1 ∙ opened_to-Leaf T E l.0 ∙ ap (λ x. x ∷ []) (sym l.1) in
    (0, omega arith, subst (AllByRecursion (IsTree Q R 0)) (sym alone) (w, tt), ap all_elements alone ∙ append-nil (elements n))
whole-opened Q R m (suc h) n le w =
    let p = is_parent _ n w in let same : opened_to n ≡ children_of p.0 = ap opened_to p.1 ∙ opened_to-Parent p.0 in
    (h, omega (arith, le), subst (AllByRecursion (IsTree Q R h)) (sym same) p.2.1, ap all_elements same ∙ sym (ap elements p.1 ∙ elements-Parent p.0))

-- a list with one node
pub opened-single : {T E : Type 0} (ns rest : List (RTreeNode T E)) (n : RTreeNode T E) → ns ≡ n ∷ rest → length ns ≡ 1
    → (ns ≡ n ∷ []) × (flat_map opened_to ns ≡ opened_to n)
opened-single ns rest n is one =
    let e = ap length is in
    let single : ns ≡ n ∷ [] = is ∙ ap (λ l. n ∷ l) (nil_from_length rest (omega (arith, e, one))) in
    (single, ap (flat_map opened_to) single ∙ append-nil (opened_to n))

-- ---- pairs of nodes

-- Meet of all pairs of two lists of nodes
abbrev pub all_meets : {T E U F : Type 0} → (E → F → Bool) → (T → E) → (U → F) → List (RTreeNode T E) → List (RTreeNode U F) → ℕ
all_meets {T} {E} {U} {F} meets left_box right_box ls rs = sum_by (λ (p : RTreeNode T E × RTreeNode U F). meet meets left_box right_box p.0 p.1) (product ls rs)

steps-beside-Parent : {U F : Type 0} (q : ParentNode U F) → steps_beside (Parent q) ≡ 3 + total (map (λ r. 1 + steps_beside r) (children_of q))
unfolding steps_beside
steps-beside-Parent q = fold_tree-Parent _ _ q ∙ ap (λ n. 3 + n) (ap total (map-map (λ n. 1 + n) steps_beside (children_of q)))

if-map : {A B : Type 0} (h : A → B) (b : Bool) (xs : List A) → map h (if b then xs else []) ≡ (if b then map h xs else [])
if-map h true xs = refl
if-map h false xs = refl

module _ {T E U F : Type 0} (meets : E → F → Bool) (left_box : T → E) (right_box : U → F) where
  -- Meet of two nodes that are shown, by the nodes that come after them
  meet-row : (e : E) (ls : List (RTreeNode T E)) (r : Shown U F) (rs : List (RTreeNode U F)) → next_shown r ≡ map shown rs
      → meet_shown meets left_box right_box (parent e (row_of (map shown ls))) r ≡ (if meets e (shown_box right_box r) then 1 else 0) + all_meets meets left_box right_box ls rs
  unfolding meet
  meet-row e ls r rs next =
      let from = (if meets e (shown_box right_box r) then 1 else 0) in
      ap (λ (below : List (Shown U F → ℕ)). from + sum_by (λ p. p.0 p.1) (product below (next_shown r))) (folded-row {A = Shown U F → ℕ} _ _ (map shown ls))
      ∙ ap (λ (n : ℕ). from + n) (sum_by-applied (meet_shown meets left_box right_box) (map shown ls) (next_shown r)
      ∙ ap (λ (l : List (Shown U F)). sum_by (λ (p : Shown T E × Shown U F). meet_shown meets left_box right_box p.0 p.1) (product (map shown ls) l)) next
      ∙ sum_by-seen shown shown (meet_shown meets left_box right_box) ls rs)

  -- of two roots: no more than this where one has no children, and just this where both have some
  pub meet-roots : (e : E) (f : F) (ls : List (RTreeNode T E)) (rs : List (RTreeNode U F))
      → let met = meet_of_shown meets left_box right_box (parent e (row_of (map shown ls))) (parent f (row_of (map shown rs))) in
      let all = (if meets e f then 1 else 0) + all_meets meets left_box right_box ls rs in
      (met ≤ all) × (ls ≢ [] → rs ≢ [] → met ≡ all)
  meet-roots e f [] rs = (omega arith, λ some some'. absurd (some refl))
  meet-roots e f (l ∷ ls) [] = (omega arith, λ some some'. absurd (some' refl))
  meet-roots e f (l ∷ ls) (r ∷ rs) =
      let is = meet-row e (l ∷ ls) (parent f (row_of (map shown (r ∷ rs)))) (r ∷ rs) (nodes-row (map shown (r ∷ rs))) in
      (omega (arith, is), λ some some'. is)

  abbrev pub does_meet : RTreeNode T E → RTreeNode U F → Bool
  does_meet l r = meets (node_box left_box l) (node_box right_box r)

  -- a pair of two leaves
  pub record AreLeaves (t : T) (u : U) (l : RTreeNode T E) (r : RTreeNode U F) : Type 0 where
    pub left : l ≡ Leaf t
    pub right : r ≡ Leaf u
    pub both : both_leaves l r ≡ true
    pub meeting : does_meet l r ≡ meets (left_box t) (right_box u)
    pub pairs : pairs_at meets left_box right_box l r ≡ (if meets (left_box t) (right_box u) then the_pair t u ∷ [] else [])
    pub opens : opens_at meets left_box right_box l r ≡ 0
    pub counts : meet meets left_box right_box l r ≡ 0
    pub steps : steps_at l r ≡ 1

  -- a pair that is not of two leaves, by whether it meets, and by what comes after the two nodes
  pub record IsOpened (b : Bool) (ls : List (RTreeNode T E)) (rs : List (RTreeNode U F)) (l : RTreeNode T E) (r : RTreeNode U F) : Type 0 where
    pub pairs : pairs_at meets left_box right_box l r ≡ (if b then all_pairs meets left_box right_box ls rs else [])
    pub opens : opens_at meets left_box right_box l r ≡ (if b then 1 + all_opens meets left_box right_box ls rs else 0)
    pub counts : meet meets left_box right_box l r ≡ (if b then 1 else 0) + all_meets meets left_box right_box ls rs
    pub steps : steps_at l r ≡ 1 + all_steps steps_at ls rs

  abbrev pub Kind : RTreeNode T E → RTreeNode U F → Type 0
  Kind l r = ((t : T) × (u : U) × AreLeaves t u l r) ⊎ IsOpened (does_meet l r) (opened_to l) (opened_to r) l r

  leaves-at : (t : T) (u : U) → AreLeaves t u (Leaf t) (Leaf u)
  unfolding is_leaf_node node_box pairs_at opens_at meet steps_at given reach shown steps_beside fold_tree
  leaves-at t u = assumption (if-map (λ (u : U). the_pair t u) (meets (left_box t) (right_box u)) (u ∷ []))

  -- a leaf beside a parent goes on alone
  opened-beside : (t : T) (q : ParentNode U F) → IsOpened (meets (left_box t) q.envelope) (Leaf t ∷ []) (children_of q) (Leaf t) (Parent q)
  unfolding pairs_at opens_at meet steps_at count_parents shown fold_tree
  opened-beside t q = record {
    pairs = ap (map (λ (u : U). the_pair t u)) (given-Parent (meets (left_box t)) (λ u. meets (left_box t) (right_box u)) q)
        ∙ if-map (λ u. the_pair t u) (meets (left_box t) q.envelope) _
        ∙ ap (λ (l : List (T × U)). if meets (left_box t) q.envelope then l else [])
        (map-flat_map (λ u. the_pair t u) (given (meets (left_box t)) (λ u. meets (left_box t) (right_box u))) (children_of q)
        ∙ sym (flat_map-row (λ (p : RTreeNode T E × RTreeNode U F). pairs_at meets left_box right_box p.0 p.1) (Leaf t) (children_of q)));
    opens = reach-Parent (meets (left_box t)) q
        ∙ ap (λ (n : ℕ). if meets (left_box t) q.envelope then 1 + n else 0) (total-map (reach (meets (left_box t))) (children_of q)
        ∙ sym (sum_by-row (λ (p : RTreeNode T E × RTreeNode U F). opens_at meets left_box right_box p.0 p.1) (Leaf t) (children_of q)));
    counts = count_parents-Parent (meets (left_box t)) q
        ∙ ap (λ (n : ℕ). (if meets (left_box t) q.envelope then 1 else 0) + n) (total-map (count_parents (meets (left_box t))) (children_of q)
        ∙ sym (sum_by-row (λ (p : RTreeNode T E × RTreeNode U F). meet meets left_box right_box p.0 p.1) (Leaf t) (children_of q)));
    steps = omega (arith, steps-beside-Parent q);
  }

  opened-Parent : (p : ParentNode T E) (r : RTreeNode U F) → IsOpened (meets p.envelope (node_box right_box r)) (children_of p) (opened_to r) (Parent p) r
  unfolding pairs_at opens_at meet steps_at
  opened-Parent p r = record {
    pairs = ap (λ (f : RTreeNode U F → List (T × U)). f r) (fold_tree-Parent {A = RTreeNode U F → List (T × U)} _ _ p)
        ∙ ap (λ (l : List (T × U)). if meets p.envelope (node_box right_box r) then l else []) (flat_map-applied (pairs_at meets left_box right_box) (children_of p) (opened_to r));
    opens = ap (λ (f : RTreeNode U F → ℕ). f r) (fold_tree-Parent {A = RTreeNode U F → ℕ} _ _ p)
        ∙ ap (λ (n : ℕ). if meets p.envelope (node_box right_box r) then 1 + n else 0) (sum_by-applied (opens_at meets left_box right_box) (children_of p) (opened_to r));
    counts = ap (λ (l : Shown T E). meet_shown meets left_box right_box l (shown r)) (shown-Parent p)
        ∙ meet-row p.envelope (children_of p) (shown r) (opened_to r) (shown-next r)
        ∙ ap (λ (f : F). (if meets p.envelope f then 1 else 0) + all_meets meets left_box right_box (children_of p) (opened_to r)) (shown-box right_box r);
    steps = ap (λ (f : RTreeNode U F → ℕ). f r) (fold_tree-Parent {A = RTreeNode U F → ℕ} _ _ p)
        ∙ ap (λ n. 1 + n) (all_steps-applied steps_at (children_of p) (opened_to r));
  }

  pub kinds : (l : RTreeNode T E) (r : RTreeNode U F) → Kind l r
  kinds l r = by_node (λ (l : RTreeNode T E). Kind l r)
      (λ t. by_node (λ (r : RTreeNode U F). Kind (Leaf t) r) (λ u. inl (t, u, leaves-at t u))
      (λ q. inr (rw (node_box-Leaf T E left_box t, node_box-Parent right_box q, opened_to-Leaf T E t, opened_to-Parent q) (opened-beside t q))) r)
      (λ p. inr (rw (node_box-Parent left_box p, opened_to-Parent p) (opened-Parent p r))) l

  pub leaves : (l : RTreeNode T E) (r : RTreeNode U F) (t : T) (u : U) → l ≡ Leaf t → r ≡ Leaf u → AreLeaves t u l r
  leaves l r t u is is' = rw (is, is') (leaves-at t u)

  pub opened : (b : Bool) (l : RTreeNode T E) (r : RTreeNode U F) → both_leaves l r ≡ false → does_meet l r ≡ b → IsOpened b (opened_to l) (opened_to r) l r
  opened b l r apart is = by_kind (kinds l r) where
    by_kind : Kind l r → IsOpened b (opened_to l) (opened_to r) l r
    by_kind (inl k) = absurd (true≢false (sym k.2.both ∙ apart))
    by_kind (inr o) = subst (λ b. IsOpened b (opened_to l) (opened_to r) l r) is o

  -- a pair that does not meet
  pub passed : (l : RTreeNode T E) (r : RTreeNode U F) → does_meet l r ≡ false → (pairs_at meets left_box right_box l r ≡ []) × (opens_at meets left_box right_box l r ≡ 0)
  passed l r apart = by_kind (kinds l r) where
    by_kind : Kind l r → (pairs_at meets left_box right_box l r ≡ []) × (opens_at meets left_box right_box l r ≡ 0)
    by_kind (inl k) = (k.2.pairs ∙ ap (λ (b : Bool). if b then the_pair k.0 k.1 ∷ [] else []) (sym k.2.meeting ∙ apart), k.2.opens)
    by_kind (inr o) = let missed = subst (λ b. IsOpened b (opened_to l) (opened_to r) l r) apart o in (missed.pairs, missed.opens)
