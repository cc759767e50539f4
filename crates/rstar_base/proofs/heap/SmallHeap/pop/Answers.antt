use Rattle.std.proofs.Common.{◌≡◌, ◌++◌, ◌∷◌, [], List, Option, Some, None, IfSome, IfNone, slice_index_or, false, refl, ap, sym, subst, ◌∙◌}
use Rattle.std.specs.List.{AllByRecursion}
use Rattle.std.specs.List.Sorted.{IsPermutation}
use Rattle.std.specs.Ordering.{is_lt}
use Rattle.std.specs.declared.cmp.Ordering.{Ordering}
use Rattle.std.specs.BinaryHeap.{IsHeap, IsUpperBound}
use Rattle.rstar_base.specs.SmallHeaps.{present, Rises, items_of}
use Rattle.rstar_base.proofs.HeapParts.{ordered-of, inline-of, rest-of, rises-front, bag-rest, bag-last, greatest-rest, greatest-last}
use Rattle.rstar_base.proofs.heap.SmallHeap.pop.Given.{Over}
use Rattle.rstar_base.proofs.heap.SmallHeap.pop.Goals as goal

pub is_above_all-requires-clause-rises : goal.is_above_all-requires-clause-rises
is_above_all-requires-clause-rises g c = subst (λ os. Rises g.T.Ord.cmp (present os)) (sym c.as_slice-2.ensures.value) (inline-of g.T.Ord.cmp _ _ c.self.view_is c.requires)

pub is_above_all-requires-clause-heap : goal.is_above_all-requires-clause-heap
is_above_all-requires-clause-heap g c = subst (IsHeap g.T.Ord.cmp) (sym c.as_slice.ensures.value) (rest-of g.T.Ord.cmp _ _ c.self.view_is c.requires)

pub take_greatest-requires-clause-heap : goal.take_greatest-requires-clause-heap
take_greatest-requires-clause-heap g c = rest-of g.T.Ord.cmp _ _ c.self.view_is c.requires

pub returns-then-is_above_all-clause-ordered : goal.returns-then-is_above_all-clause-ordered
returns-then-is_above_all-clause-ordered g c = ordered-of g.T.Ord.cmp _ (inline-of g.T.Ord.cmp _ _ c.self.view_is c.requires) c.take_greatest.ensures.heap

pub returns-then-is_above_all-clause-some : goal.returns-then-is_above_all-clause-some
returns-then-is_above_all-clause-some g c = subst (λ h. IsPermutation (items_of h) (c.take_greatest.result ∷ (present c.self.inside.inline.items ++ c.take_greatest.new.rest.items))) c.self.view_is (bag-rest (present c.self.inside.inline.items) c.self.inside.rest.items c.take_greatest.new.rest.items c.take_greatest.result c.take_greatest.ensures.bag)

pub returns-then-is_above_all-clause-greatest : goal.returns-then-is_above_all-clause-greatest
returns-then-is_above_all-clause-greatest g c =
    let told = c.if-is_above_all.ensures.above refl in
    let rest : (d : _) → AllByRecursion (λ y. is_lt (g.T.Ord.cmp (slice_index_or c.self.inside.rest.items 0 d) y) ≡ false) (present c.self.inside.inline.items) = λ d. subst (λ l. AllByRecursion (λ y. is_lt (g.T.Ord.cmp (slice_index_or l 0 d) y) ≡ false) (present c.self.inside.inline.items)) c.as_slice.ensures.value (subst (λ os. AllByRecursion (λ y. is_lt (g.T.Ord.cmp (slice_index_or c.as_slice.result.now 0 d) y) ≡ false) (present os)) c.as_slice-2.ensures.value (told d)) in
    greatest-rest g.T.Ord.cmp (present c.self.inside.inline.items) c.self.inside.rest.items c.take_greatest.new.rest.items c.take_greatest.result rest c.take_greatest.ensures.first c.take_greatest.ensures.bag c.take_greatest.ensures.greatest

-- what holds where the last inline item is taken
taken : {X : Type 0} (P : X → Type 0) (r : Option X) (a c : List X) → IfSome r (λ x. a ≡ c ++ x ∷ []) → ((x : X) → a ≡ c ++ x ∷ [] → P x) → IfSome r P
taken P None a c e f = tt
taken P (Some x) a c e f = f x e

untaken : {X : Type 0} (P Q : Type 0) (r : Option X) → IfNone r P → (P → Q) → IfNone r Q
untaken P Q None p f = f p
untaken P Q (Some x) p f = tt

-- what is left rises, taken or not
still-rises : {X : Type 0} (R : X → X → Ordering) (r : Option X) (a c : List (Option X)) → Rises R (present a) → IfNone r (c ≡ []) → IfSome r (λ x. present a ≡ present c ++ x ∷ []) → Rises R (present c)
still-rises R None a c h n e = subst (λ l. Rises R (present l)) (sym n) tt
still-rises R (Some x) a c h n e = rises-front R (present c) x (subst (Rises R) e h)

inline-rises : (g : Over) (c : goal.After-take_last g) → Rises g.T.Ord.cmp (present c.self.inside.inline.items)
inline-rises g c = inline-of g.T.Ord.cmp _ _ c.self.view_is c.requires

-- nothing lies inline, and so nothing at all
nothing : (g : Over) (c : goal.After-take_last g) → c.self.inside.inline.items ≡ [] → present c.self.inside.inline.items ++ c.self.inside.rest.items ≡ []
nothing g c e =
    let rest : c.self.inside.rest.items ≡ [] = sym c.as_slice.ensures.value ∙ c.if-is_above_all.ensures.none refl (ap present (c.as_slice-2.ensures.value ∙ e)) in
    ap (λ l. present l ++ c.self.inside.rest.items) e ∙ rest

pub returns-else-is_above_all-clause-ordered : goal.returns-else-is_above_all-clause-ordered
returns-else-is_above_all-clause-ordered g c = ordered-of g.T.Ord.cmp _ (still-rises g.T.Ord.cmp c.take_last.result c.self.inside.inline.items c.take_last.new.inline.items (inline-rises g c) c.take_last.ensures.stays c.take_last.ensures.some) (rest-of g.T.Ord.cmp _ _ c.self.view_is c.requires)

pub returns-else-is_above_all-clause-none : goal.returns-else-is_above_all-clause-none
returns-else-is_above_all-clause-none g c = untaken _ _ c.take_last.result c.take_last.ensures.none (λ e. subst (λ h. items_of h ≡ []) c.self.view_is (nothing g c e))

none-stays : {X : Type 0} (r : Option X) (a b : List (Option X)) (rest : List X) → IfNone r (a ≡ []) → IfNone r (b ≡ []) → (a ≡ [] → present a ++ rest ≡ []) → IfNone r (present b ++ rest ≡ [])
none-stays None a b rest e d f = ap (λ l. present l ++ rest) (d ∙ sym e) ∙ f e
none-stays (Some x) a b rest e d f = tt

pub returns-else-is_above_all-clause-stays : goal.returns-else-is_above_all-clause-stays
returns-else-is_above_all-clause-stays g c = none-stays c.take_last.result c.self.inside.inline.items c.take_last.new.inline.items c.self.inside.rest.items c.take_last.ensures.none c.take_last.ensures.stays (nothing g c)

pub returns-else-is_above_all-clause-some : goal.returns-else-is_above_all-clause-some
returns-else-is_above_all-clause-some g c = taken _ c.take_last.result (present c.self.inside.inline.items) (present c.take_last.new.inline.items) c.take_last.ensures.some
    (λ x e. subst (λ h. IsPermutation (items_of h) (x ∷ (present c.take_last.new.inline.items ++ c.self.inside.rest.items))) c.self.view_is (bag-last (present c.self.inside.inline.items) c.self.inside.rest.items (present c.take_last.new.inline.items) x e))

pub returns-else-is_above_all-clause-greatest : goal.returns-else-is_above_all-clause-greatest
returns-else-is_above_all-clause-greatest g c = taken _ c.take_last.result (present c.self.inside.inline.items) (present c.take_last.new.inline.items) c.take_last.ensures.some
    (λ x e. greatest-last g.T.Ord.cmp (present c.self.inside.inline.items) c.self.inside.rest.items (present c.take_last.new.inline.items) x (inline-rises g c) e
    (λ xs y d. subst (IsUpperBound g.T.Ord.cmp y) c.as_slice.ensures.value (c.if-is_above_all.ensures.below refl xs y (ap present c.as_slice-2.ensures.value ∙ d))))
