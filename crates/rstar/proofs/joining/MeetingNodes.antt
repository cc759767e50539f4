-- The walk of a join against the definitions: by the laws of envelopes, a merge intersects what a part intersects.
use Rattle.std.proofs.Common.{◌≡◌, ℤ, List, [], ◌∷◌, ◌++◌, map, flat_map, filter, ap, ◌∙◌, sym, subst, Bool, true, false, append_assoc}
use Rattle.std.specs.List.{AllByRecursion}
use Rattle.std.specs.List.Sorted.{IsPermutation}
use Rattle.std.proofs.lemmas.Bool.{true≢false, false_from_ne_true}
use Rattle.std.proofs.lemmas.List.Sorted.{IsPermutation-refl, IsPermutation-append, IsPermutation-append_comm, IsPermutation-append_left, IsPermutation-append_right, IsPermutation-trans}
use Rattle.std.proofs.lemmas.List.Elements.{filter-append}
use Rattle.rstar_base.specs.Envelopes.{Boxes, EnvelopeLaws}
use Rattle.rstar_base.specs.Hulls.{hull}
use Rattle.rstar_base.proofs.Along.{IsPermutation-same}
use Rattle.rstar_base.proofs.Hulls.{hull-value}
use Rattle.rstar_base.proofs.Lists.{all_first, all_second, all_both}
use Rattle.std.proofs.lemmas.List.Concat.{flat_map-append}
use Rattle.std.proofs.lemmas.List.{map-append}
use Rattle.rstar.specs.declared.node.RTreeNode.{RTreeNode}
use Rattle.rstar.specs.Nodes.{elements, all_elements}
use Rattle.rstar.specs.Lists.{product}
use Rattle.rstar.specs.Meets.{pairs_at, all_pairs}
use Rattle.rstar.specs.Joins.{SeenLaws, meets_by, join}
use Rattle.rstar.proofs.joining.PairsByChildren.{the_pair, all-product, product-none, product-rows}
use Rattle.rstar.proofs.searching.Ties.{filter-along}

-- where a test accepts a merge if it accepts the first part, and it does not accept the merge of some, it accepts none of them
hull-refused : {A E : Type 0} {IsPoint : List ℤ → Type 0} {v : Boxes E} (laws : EnvelopeLaws IsPoint v) (accepts : E → Bool)
    → ((a b : E) → v.IsValue a → v.IsValue b → accepts a ≡ true → accepts (v.merge a b) ≡ true) → (box : A → E) (xs : List A)
    → AllByRecursion (λ x. v.IsValue (box x)) xs → accepts (hull v box xs) ≡ false → AllByRecursion (λ x. accepts (box x) ≡ false) xs
hull-refused laws accepts grows box [] vs missed = tt
hull-refused {E = E} {v = v} laws accepts grows box (x ∷ xs) vs missed =
    let rest = hull-value laws box xs vs.1 in
    let refused = λ (e : E) (h : accepts e ≡ true → accepts (hull v box (x ∷ xs)) ≡ true). false_from_ne_true (accepts e) (λ is. true≢false (sym (h is) ∙ missed)) in (
      refused (box x) (grows (box x) (hull v box xs) vs.0 rest),
      hull-refused laws accepts grows box xs vs.1
          (refused (hull v box xs) (λ is. ap accepts (laws.merge_comm (box x) (hull v box xs) vs.0 rest) ∙ grows (hull v box xs) (box x) rest vs.0 is)),
    )

module _ {E F : Type 0} {IsPoint IsPoint' : List ℤ → Type 0} {v : Boxes E} {w : Boxes F} {seen : F → E}
    (laws : EnvelopeLaws IsPoint v) (laws' : EnvelopeLaws IsPoint' w) (same : SeenLaws w v seen) where
  abbrev meets : E → F → Bool
  meets = meets_by v seen

  -- what meets a part on the right meets the merge
  meets-right : (e : E) (a b : F) → v.IsValue e → w.IsValue a → w.IsValue b → meets e a ≡ true → meets e (w.merge a b) ≡ true
  meets-right e a b ve wa wb h =
      let back = laws.intersects_sym e (seen a) ve (same.value a wa) h in
      let merged = laws.merge_intersects (seen a) (seen b) e (same.value a wa) (same.value b wb) ve back in
      subst (λ x. v.intersects e x ≡ true) (sym (same.merge a b))
      (laws.intersects_sym (v.merge (seen a) (seen b)) e (laws.merge_value _ _ (same.value a wa) (same.value b wb)) ve merged)

  -- where two merges do not meet, no pair of their parts does
  pub apart : {A B : Type 0} (left_box : A → E) (right_box : B → F) (xs : List A) (ys : List B)
      → AllByRecursion (λ x. v.IsValue (left_box x)) xs → AllByRecursion (λ y. w.IsValue (right_box y)) ys
      → meets (hull v left_box xs) (hull w right_box ys) ≡ false → AllByRecursion (λ (p : A × B). meets (left_box p.0) (right_box p.1) ≡ false) (product xs ys)
  apart {A} {B} left_box right_box xs ys vs ws missed =
      let all = hull w right_box ys in let value = hull-value laws' right_box ys ws in
      all-product (λ (p : A × B). meets (left_box p.0) (right_box p.1) ≡ false) xs ys (all_both _ _ _
      (λ x vx none. hull-refused laws' (meets (left_box x)) (λ a b wa wb h. meets-right (left_box x) a b vx wa wb h) right_box ys ws none) xs vs
      (hull-refused laws (λ e. meets e all) (λ a b va vb h. laws.merge_intersects a b (seen all) va vb (same.value all value) h) left_box xs vs missed))

-- ---- joins of lists put together

pub exchanged : {A : Type 0} (a b c d : List A) → IsPermutation ((a ++ b) ++ (c ++ d)) ((a ++ c) ++ (b ++ d))
exchanged a b c d =
    let turned = IsPermutation-append_left d (b ++ c) (c ++ b) (IsPermutation-append_comm b c) in
    simp append_assoc (IsPermutation-append_right a (b ++ (c ++ d)) (c ++ (b ++ d)) (simp append_assoc at turned))

pub products-beside : {A B : Type 0} (xs : List A) (ys zs : List B) → IsPermutation (product xs ys ++ product xs zs) (product xs (ys ++ zs))
products-beside [] ys zs = IsPermutation-refl []
products-beside {A} {B} (x ∷ xs) ys zs =
    let row : List B → List (A × B) = map (λ y. the_pair x y) in
    rw (map-append (λ y. the_pair x y) ys zs) (IsPermutation-trans _ _ _ (exchanged (row ys) (product xs ys) (row zs) (product xs zs))
    (IsPermutation-append_right (row ys ++ row zs) _ _ (products-beside xs ys zs)))

-- ---- the pairs of nodes put together

module _ {T E U F : Type 0} (meets : E → F → Bool) (left_box : T → E) (right_box : U → F) where
  abbrev kept : List (T × U) → List (T × U)
  kept = filter (λ p. meets (left_box p.0) (right_box p.1))

  join-right : (xs : List T) (ys zs : List U) → IsPermutation (join meets left_box right_box xs ys ++ join meets left_box right_box xs zs) (join meets left_box right_box xs (ys ++ zs))
  join-right xs ys zs =
      subst (λ l. IsPermutation l (join meets left_box right_box xs (ys ++ zs))) (filter-append (λ p. meets (left_box p.0) (right_box p.1)) (product xs ys) (product xs zs))
      (filter-along (λ p. meets (left_box p.0) (right_box p.1)) _ _ (products-beside xs ys zs))

  -- what the walk gives of a pair of nodes is the join of their elements
  abbrev pub IsJoined : RTreeNode T E → RTreeNode U F → Type 0
  IsJoined l r = IsPermutation (pairs_at meets left_box right_box l r) (join meets left_box right_box (elements l) (elements r))

  abbrev pairs_of : RTreeNode T E × RTreeNode U F → List (T × U)
  pairs_of p = pairs_at meets left_box right_box p.0 p.1

  row-joined : (l : RTreeNode T E) (rs : List (RTreeNode U F)) → AllByRecursion (λ p. IsJoined p.0 p.1) (map (λ r. the_pair l r) rs)
      → IsPermutation (flat_map pairs_of (map (λ r. the_pair l r) rs)) (join meets left_box right_box (elements l) (all_elements rs))
  row-joined l [] all = IsPermutation-same _ _ (ap kept (sym (product-none (elements l))))
  row-joined l (r ∷ rs) all =
      IsPermutation-trans _ _ _ (IsPermutation-append _ _ _ _ all.0 (row-joined l rs all.1)) (join-right (elements l) (elements r) (all_elements rs))

  pub all-joined : (ls : List (RTreeNode T E)) (rs : List (RTreeNode U F)) → AllByRecursion (λ p. IsJoined p.0 p.1) (product ls rs)
      → IsPermutation (all_pairs meets left_box right_box ls rs) (join meets left_box right_box (all_elements ls) (all_elements rs))
  all-joined [] rs all = IsPermutation-refl []
  all-joined (l ∷ ls) rs all =
      let row = map (λ (r : RTreeNode U F). the_pair l r) rs in
      let below = IsPermutation-append _ _ _ _ (row-joined l rs (all_first _ row (product ls rs) all)) (all-joined ls rs (all_second _ row (product ls rs) all)) in
      let here = filter-append (λ p. meets (left_box p.0) (right_box p.1)) (product (elements l) (all_elements rs)) (product (all_elements ls) (all_elements rs)) in
      rw (flat_map-append pairs_of row (product ls rs), product-rows (elements l) (all_elements ls) (all_elements rs), here) below
