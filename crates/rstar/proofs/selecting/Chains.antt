-- Chains of calls that begin at a selection: the list that it gives.
use Rattle.std.proofs.Common.{◌≡◌, List, Bool, length, map, ap, subst, refl, None, ◌∙◌, filter, IfOk, Result}
use Rattle.std.specs.Borrow.{Bor}
use Rattle.std.specs.Iterator.{Yields}
use Rattle.std.proofs.lemmas.Iterator.{YieldsList}
use Rattle.std.proofs.lemmas.Iterator.Consumers.{YieldsList-from_shown, YieldsList-end}
use Rattle.std.proofs.lemmas.Result.{IfOk-weaker}
use Rattle.rstar.specs.declared.iterators.selection.SelectionIterator.{SelectionIterator}
use Rattle.rstar.specs.declared.node.ParentNode.{ParentNode}
use Rattle.rstar.specs.declared.iterators.joins.IntersectionIterator.{IntersectionIterator}
use Rattle.rstar_base.specs.Envelopes.{Boxes}
use Rattle.rstar_base.specs.Elements.{Objects}
use Rattle.rstar.specs.declared.iterators.joins.selves.SelfIntersectionIterator.{SelfIntersectionIterator}
use Rattle.rstar.specs.Joins.{pairs_to_come, GivesPair}
use Rattle.rstar.specs.SelfJoins.{own_to_come, GivesOwnPair}
use Rattle.rstar.specs.Selections.{to_come, IsMade, GivesNext}

pub selection_list : {T F E : Type 0} {accepts : F → E → Bool} {selects : F → T → Bool} {it : SelectionIterator T F E} (xs : List T)
    → to_come accepts selects it ≡ xs → YieldsList (GivesNext accepts selects) (λ (x : Bor T). x.now) it xs
selection_list {T} {F} {E} {accepts} {selects} {it} xs e =
    subst (YieldsList (GivesNext accepts selects) (λ (x : Bor T). x.now) it) e
    (YieldsList-from_shown (GivesNext accepts selects) (λ (x : Bor T). x.now) (to_come accepts selects) (λ s t h. ap length h.gives.0) (λ s x t h. h.gives) it)

-- at the end of a `for` over a selection, whose items so far are ys
pub selection_end : {T F E : Type 0} {accepts : F → E → Bool} {selects : F → T → Bool} (it : SelectionIterator T F E) (xs : List T)
    → to_come accepts selects it ≡ xs → (ys : List (Bor T)) (t : SelectionIterator T F E) → Yields (GivesNext accepts selects) it ys t
    → (u : SelectionIterator T F E) → GivesNext accepts selects t None u → map (λ (x : Bor T). x.now) ys ≡ xs
selection_end it xs e ys t y u last = (YieldsList-end (selection_list {it = it} xs e) ys t y None u refl last).0

-- what a lawful selection gives, and the iterator over it, its question by another name
pub all_asked : {I T X Lawful : Type 0} {asked selects : T → Bool} (come : I → List T) (ts : List T) (r : Result I X) → Lawful → asked ≡ selects
    → IfOk r (λ it. Lawful → come it ≡ filter asked ts) → IfOk r (λ it. come it ≡ filter selects ts)
all_asked come ts r lawful same told = IfOk-weaker r _ _ (λ it all. all lawful ∙ ap (λ s. filter s ts) same) told

pub made_asking : {T F E X : Type 0} {asked same : E → Bool} (accepts : F → E → Bool) (over : ParentNode T E) (r : Result (SelectionIterator T F E) X) → asked ≡ same
    → IfOk r (λ it. IsMade accepts over asked it) → IfOk r (λ it. IsMade accepts over same it)
made_asking accepts over r e made = subst (λ asked. IfOk r (λ it. IsMade accepts over asked it)) e made

-- the same of a join: the pairs that it gives, and at the end of a `for` over it
pub pairs_list : {T E U F : Type 0} {meets : E → F → Bool} {left_box : T → E} {right_box : U → F} {it : IntersectionIterator T U E F} (xs : List (T × U))
    → pairs_to_come meets left_box right_box it ≡ xs → YieldsList (GivesPair meets left_box right_box) (λ (p : Bor T × Bor U). (p.0.now, p.1.now)) it xs
pairs_list {T} {E} {U} {F} {meets} {left_box} {right_box} {it} xs e =
    subst (YieldsList (GivesPair meets left_box right_box) (λ (p : Bor T × Bor U). (p.0.now, p.1.now)) it) e
    (YieldsList-from_shown (GivesPair meets left_box right_box) (λ (p : Bor T × Bor U). (p.0.now, p.1.now)) (pairs_to_come meets left_box right_box) (λ s t h. ap length h.gives.0) (λ s x t h. h.gives) it)

pub pairs_end : {T E U F : Type 0} {meets : E → F → Bool} {left_box : T → E} {right_box : U → F} (it : IntersectionIterator T U E F) (xs : List (T × U))
    → pairs_to_come meets left_box right_box it ≡ xs → (ys : List (Bor T × Bor U)) (t : IntersectionIterator T U E F) → Yields (GivesPair meets left_box right_box) it ys t
    → (u : IntersectionIterator T U E F) → GivesPair meets left_box right_box t None u → map (λ (p : Bor T × Bor U). (p.0.now, p.1.now)) ys ≡ xs
pairs_end it xs e ys t y u last = (YieldsList-end (pairs_list {it = it} xs e) ys t y None u refl last).0

-- and of a join of a tree with itself
pub own_list : {T E : Type 0} {v : Boxes E} {o : Objects T E} {meets : E → E → Bool} {it : SelfIntersectionIterator T E} (xs : List (T × T))
    → own_to_come meets o.box_of it ≡ xs → YieldsList (GivesOwnPair v o meets) (λ (p : Bor T × Bor T). (p.0.now, p.1.now)) it xs
own_list {T} {E} {v} {o} {meets} {it} xs e =
    subst (YieldsList (GivesOwnPair v o meets) (λ (p : Bor T × Bor T). (p.0.now, p.1.now)) it) e
    (YieldsList-from_shown (GivesOwnPair v o meets) (λ (p : Bor T × Bor T). (p.0.now, p.1.now)) (own_to_come meets o.box_of) (λ s t h. ap length h.gives.0) (λ s x t h. h.gives) it)

pub own_end : {T E : Type 0} {v : Boxes E} {o : Objects T E} {meets : E → E → Bool} (it : SelfIntersectionIterator T E) (xs : List (T × T))
    → own_to_come meets o.box_of it ≡ xs → (ys : List (Bor T × Bor T)) (t : SelfIntersectionIterator T E) → Yields (GivesOwnPair v o meets) it ys t
    → (u : SelfIntersectionIterator T E) → GivesOwnPair v o meets t None u → map (λ (p : Bor T × Bor T). (p.0.now, p.1.now)) ys ≡ xs
own_end it xs e ys t y u last = (YieldsList-end (own_list {it = it} xs e) ys t y None u refl last).0
