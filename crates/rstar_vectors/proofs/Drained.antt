-- What a loop over any iterator has taken, and how many parents a selection, or pairs of nodes a join, has opened when all
-- is taken.
use Rattle.std.proofs.Common.{◌≡◌, ◌∙◌, List, ◌++◌, ◌∷◌, [], map, min, Bool, Option, Some, None, Result, Ok, refl, sym, ap, ap₂, subst}
use Rattle.std.specs.Borrow.{Bor}
use Rattle.std.specs.Iterator.{Yields, YieldsThen}
use Rattle.std.proofs.lemmas.List.{map-append}
use Rattle.rstar.specs.declared.iterators.joins.IntersectionIterator.{IntersectionIterator}
use Rattle.rstar.specs.declared.node.ParentNode.{ParentNode}
use Rattle.rstar.specs.Joins.{pairs_opened, meet_by, GivesPair}
use Rattle.rstar.specs.declared.iterators.joins.selves.SelfIntersectionIterator.{SelfIntersectionIterator}
use Rattle.rstar.specs.SelfJoins.{own_root, own_opened, own_meet, GivesOwnPair}
use Rattle.rstar_base.specs.Envelopes.{Boxes}
use Rattle.rstar_base.specs.Elements.{Objects}
use Rattle.rstar.specs.declared.iterators.selection.SelectionIterator.{SelectionIterator}
use Rattle.rstar.specs.Selections.{opened_by, reach_by, GivesNext}
use Rattle.rstar.specs.Nodes.{reach_of}
use Rattle.rstar.specs.Meets.{meet_of_roots}
use Rattle.rstar_base.specs.Counts.{usize_max}

module _ {S A : Type 0} (steps : S → Option A → S → Type 0) where
  pub none-yielded : (none : List A) (s : S) → none ≡ [] → Yields steps s none s
  none-yielded none s e = subst (λ (xs : List A). Yields steps s xs s) (sym e) refl

  further : (xs : List A) (x : A) (s t u : S) → Yields steps s xs t → steps t (Some x) u → Yields steps s (xs ++ x ∷ []) u
  further [] x s t u y e = (u, subst (λ (k : S). steps k (Some x) u) (sym y) e, refl)
  further (z ∷ xs) x s t u y e = (y.0, y.1, further xs x y.0 t u y.2 e)

  pub one-more-yielded : (xs more : List A) (x : A) (s t u : S) → more ≡ xs ++ x ∷ [] → Yields steps s xs t → steps t (Some x) u → Yields steps s more u
  one-more-yielded xs more x s t u m y e = subst (λ (l : List A). Yields steps s l u) (sym m) (further xs x s t u y e)

-- the same of an iterator over results, each of which was an `Ok`
module _ {S A Z : Type 0} (steps : S → Option (Result A Z) → S → Type 0) where
  pub none-taken : (none : List A) (s : S) → none ≡ [] → Yields steps s (map Ok none) s
  none-taken none s e = none-yielded steps (map Ok none) s (ap (map Ok) e)

  pub one-more-taken : (all more : List A) (x : A) (s t u : S) → more ≡ all ++ x ∷ [] → Yields steps s (map Ok all) t → steps t (Some (Ok x)) u → Yields steps s (map Ok more) u
  one-more-taken all more x s t u m y e = one-more-yielded steps (map Ok all) (map Ok more) (Ok x) s t u (ap (map Ok) m ∙ map-append Ok all (x ∷ [])) y e

module _ {T E U F : Type 0} (meets : E → F → Bool) (left_box : T → E) (right_box : U → F) where
  -- all that meet were opened then
  pub all-opened : (xs : List (Bor T × Bor U)) (it end : IntersectionIterator T U E F)
      → YieldsThen (GivesPair meets left_box right_box) it xs None end
      → pairs_opened end ≡ min (meet_by meets left_box right_box it) usize_max
  all-opened [] it end y = y.2.ended ∙ ap (λ (i : IntersectionIterator T U E F). min (meet_by meets left_box right_box i) usize_max) (sym y.1)
  all-opened (x ∷ xs) it end y =
      let step = y.1.1 in
      all-opened xs y.1.0 end (y.0, y.1.2, y.2)
      ∙ ap₂ (λ (l : ParentNode T E) (r : ParentNode U F). min (meet_of_roots meets left_box right_box l r) usize_max) step.left step.right

module _ {T F E : Type 0} (accepts : F → E → Bool) (selects : F → T → Bool) where
  -- all that the question reaches were opened then
  pub all-reached : (xs : List (Bor T)) (it end : SelectionIterator T F E)
      → YieldsThen (GivesNext accepts selects) it xs None end
      → opened_by end ≡ min (reach_by accepts it) usize_max
  all-reached [] it end y = y.2.ended ∙ ap (λ (i : SelectionIterator T F E). min (reach_by accepts i) usize_max) (sym y.1)
  all-reached (x ∷ xs) it end y =
      let step = y.1.1 in
      all-reached xs y.1.0 end (y.0, y.1.2, y.2)
      ∙ ap₂ (λ (q : F) (r : ParentNode T E). min (reach_of (accepts q) r) usize_max) step.question step.root

module _ {T E : Type 0} {v : Boxes E} {o : Objects T E} {meets : E → E → Bool} where
  -- the same of a join of a tree with itself
  pub own-opened : (xs : List (Bor T × Bor T)) (it end : SelfIntersectionIterator T E) → YieldsThen (GivesOwnPair v o meets) it xs None end
      → own_opened end ≡ min (own_meet meets o.box_of (own_root it)) usize_max
  own-opened [] it end y = y.2.ended ∙ ap (λ (i : SelfIntersectionIterator T E). min (own_meet meets o.box_of (own_root i)) usize_max) (sym y.1)
  own-opened (x ∷ xs) it end y = own-opened xs y.1.0 end (y.0, y.1.2, y.2) ∙ ap (λ (r : ParentNode T E). min (own_meet meets o.box_of r) usize_max) y.1.1.root
