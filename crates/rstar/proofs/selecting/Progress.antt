-- Each call that gives something leaves fewer.
use Rattle.std.proofs.Common.{◌≡◌, ℕ, ℤ, ◌+◌, ◌<◌, ◌≤◌, List, [], ◌∷◌, length, refl, ap, sym, ◌∙◌, subst, arith, Option, Some, None, Result, Ok, Err, IfSome, IfNone, IsOk, IfOk, IfErr, OnSome, OnErr, inl, inr}
use Rattle.std.specs.Borrow.{Bor}
use Rattle.std.specs.Iterator.{Count, IsFinite, MakesProgress, size}
use Rattle.std.specs.declared.alloc.AllocError.{AllocError}
use Rattle.std.proofs.lemmas.Bool.{cases_lt}
use Rattle.std.proofs.lemmas.List.Sorted.{length_permutation}
use Rattle.std.proofs.lemmas.Option.{IfSome_then}
use Rattle.std.proofs.lemmas.Result.{IfOk-weaker, IfErr-weaker}
use Rattle.rstar_base.specs.Envelopes.{Boxes}
use Rattle.std.specs.declared.cmp.Ordering.{Ordering}
use Rattle.rstar_base.specs.Elements.{Objects, Distances}
use Rattle.rstar_base.specs.SmallHeaps.{Held, items_of}
use Rattle.rstar.specs.declared.node.RTreeNode.{RTreeNode, Parent}
use Rattle.rstar.specs.declared.node.ParentNode.{ParentNode}
use Rattle.rstar.specs.declared.algorithm.nearest_neighbor.search.Stage.{Stage}
use Rattle.rstar.specs.declared.algorithm.nearest_neighbor.search.Stage.TheVariants.{Fresh, Running, Ended}
use Rattle.rstar.specs.Nodes.{all_elements, all_parents, all_far, far_of, parents_of}
use Rattle.rstar_base.specs.Points.{table}
use Rattle.rstar.specs.Neighbors.{IsNeighbor, GivesNeighbor, MayWantMemory, shown}
use Rattle.rstar.specs.inside.Searches.{NodeSearch, Item, waiting_nodes, waiting_at, calls_at, waiting_of, held_by, calls_left, IsUnrefused, CountsOpenings, IsRunning, IsReady, IsReadyAt}
use Rattle.rstar.specs.inside.SearchSteps.{GivesNext}
use Rattle.rstar.proofs.searching.Searches.{fresh-counted, all-far-fewer}

module _ {T E S O : Type 0} where
  many_at : (stage : Stage) (root : ParentNode T E) (ws : List (Item T E S O)) → IsUnrefused stage → calls_at stage root ws ≡ length (all_elements (waiting_at stage root ws)) + 1
  many_at Fresh root ws h = refl
  many_at Running root ws h = refl
  many_at Ended root ws h = absurd h

  many : (s : NodeSearch T E S O) → IsUnrefused s.stage → size (calls_left s) ≡ length (all_elements (waiting_of s)) + 1
  many s = many_at s.stage s.root.now (held_by s)

  module _ (v : Boxes E) (d : Distances T) (p : List ℤ) (s t : NodeSearch T E S O) where
    -- a neighbour more
    pub given-fewer : (x : T) → IsNeighbor v d p s.root.now (waiting_of s) (waiting_of t) x → t.stage ≡ Running → IsUnrefused s.stage → size (calls_left t) < size (calls_left s)
    given-fewer x gives on going = omega (arith, many s going, many t (subst IsUnrefused (sym on) tt), length_permutation _ _ gives.bag)

    -- a refusal
    pub refused-fewer : t.stage ≡ Ended → IsUnrefused s.stage → size (calls_left t) < size (calls_left s)
    refused-fewer ended going = omega (arith, many s going, ap (λ stage. calls_at stage t.root.now (held_by t)) ended)

-- until a refusal, the parents opened are those that do not wait
counted-at : {T E S O : Type 0} (v : Boxes E) (d : Distances T) (p : List ℤ) (compare : S → S → Ordering) (ties : RTreeNode T E → RTreeNode T E → Ordering) (value : S → ℤ) (o : Objects T E) (stage : Stage) (root : ParentNode T E) (heap : Held (Item T E S O)) (opened : ℕ)
    → IsReadyAt v d p compare ties value o stage root heap opened → IsUnrefused stage → CountsOpenings root (waiting_at stage root (items_of heap)) opened
counted-at v d p compare ties value o Fresh root heap opened ready going = subst (CountsOpenings root (Parent root ∷ [])) (sym ready.2) (fresh-counted root)
counted-at v d p compare ties value o Running root heap opened ready going = ready.counted
counted-at v d p compare ties value o Ended root heap opened ready going = absurd going

pub counted : {T E S O : Type 0} (v : Boxes E) (d : Distances T) (p : List ℤ) (compare : S → S → Ordering) (ties : RTreeNode T E → RTreeNode T E → Ordering) (value : S → ℤ) (o : Objects T E) (s : NodeSearch T E S O) → IsReady v d p compare ties value o s → IsUnrefused s.stage
    → CountsOpenings s.root.now (waiting_of s) s.opened
counted v d p compare ties value o s ready going = counted-at v d p compare ties value o s.stage s.root.now s.heap s.opened ready going

-- the parents opened, and those farther than what was given, are no more than there are
module _ {T E S O : Type 0} (v : Boxes E) (d : Distances T) (p : List ℤ) (compare : S → S → Ordering) (ties : RTreeNode T E → RTreeNode T E → Ordering) (value : S → ℤ) (o : Objects T E) (s t : NodeSearch T E S O)
    (ready : IsReady v d p compare ties value o t) (same : t.root.now ≡ s.root.now) where
  running : t.stage ≡ Running → IsRunning v d p compare ties value o t.root.now t.heap t.opened
  running on = subst (λ stage. IsReadyAt v d p compare ties value o stage t.root.now t.heap t.opened) on ready

  pub given-cost : (x : T) → IsNeighbor v d p s.root.now (waiting_of s) (waiting_of t) x → t.stage ≡ Running
      → t.opened + far_of (λ e. v.distance_2 e p) (d.distance_2 x p) t.root.now ≤ parents_of t.root.now
  given-cost x gives on =
      let m = d.distance_2 x p in let counts = (running on).counted in
      let waits : waiting_of t ≡ waiting_nodes (held_by t) = ap (λ stage. waiting_at stage t.root.now (held_by t)) on in
      let still : all_far (λ e. v.distance_2 e p) m (waiting_nodes (held_by t)) ≡ far_of (λ e. v.distance_2 e p) m t.root.now =
      ap (all_far (λ e. v.distance_2 e p) m) (sym waits) ∙ gives.still_far ∙ ap (far_of (λ e. v.distance_2 e p) m) (sym same) in
      omega (arith, still, all-far-fewer (λ e. v.distance_2 e p) m (waiting_nodes (held_by t)), counts.fewer, counts.counts)

  pub cost : {A Z : Type 0} (element : A → T) (r : Option (Result A Z)) → IfSome r (λ x. IfOk x (λ y. IsNeighbor v d p s.root.now (waiting_of s) (waiting_of t) (element y)))
      → IfSome r (λ x. IfOk x (λ _. t.stage ≡ Running)) → IfSome r (λ x. IfOk x (λ y. t.opened + far_of (λ e. v.distance_2 e p) (d.distance_2 (element y) p) t.root.now ≤ parents_of t.root.now))
  cost element None gives on = tt
  cost element (Some (Ok y)) gives on = given-cost (element y) gives on
  cost element (Some (Err z)) gives on = tt

pub goes_on_at_end : {A Z : Type 0} (old new : Stage) (r : Option (Result A Z)) → IfNone r (IsUnrefused old → new ≡ Running) → IfNone r (IsUnrefused old → IsUnrefused new)
goes_on_at_end old new None h = λ going. subst IsUnrefused (sym (h going)) tt
goes_on_at_end old new (Some x) h = tt

-- what a call gives leaves fewer
pub fewer-left : {T E S O : Type 0} {v : Boxes E} {d : Distances T} {p : List ℤ} {compare : S → S → Ordering} {ties : RTreeNode T E → RTreeNode T E → Ordering} {value : S → ℤ} {o : Objects T E} {s t : NodeSearch T E S O} (r : Option (Result (Bor T × S) AllocError)) → GivesNext v d p compare ties value o s r t
    → OnSome r (size (calls_left t) < size (calls_left s))
fewer-left None told = tt
fewer-left {v = v} {d = d} {p = p} {s = s} {t = t} (Some (Ok y)) told = given-fewer v d p s t y.0.now told.gives told.goes_on told.once
fewer-left {v = v} {d = d} {p = p} {s = s} {t = t} (Some (Err z)) told = refused-fewer v d p s t told.ends told.once

-- what a call of a search gives, as what it shows
module _ {T E P S O A Z : Type 0} (v : Boxes E) (d : Distances T) (axes : ℕ) (coord : P → ℕ → ℤ) (compare : S → S → Ordering) (ties : RTreeNode T E → RTreeNode T E → Ordering) (value : S → ℤ) (o : Objects T E)
    (s t : NodeSearch T E S O) (point : P) (element : A → T) (r : Option (Result A Z)) where
  pub gives-neighbor : t.root ≡ s.root → IsReady v d (table axes (coord point)) compare ties value o t → IfSome r (λ x. IfOk x (λ y. IsNeighbor v d (table axes (coord point)) s.root.now (waiting_of s) (waiting_of t) (element y)))
      → IfNone r (IsUnrefused s.stage → all_elements (waiting_of s) ≡ []) → IfNone r (IsUnrefused s.stage → waiting_of t ≡ []) → IfNone r (IsUnrefused s.stage → t.stage ≡ Running)
      → IfSome r (λ x. IfErr x (λ _. MayWantMemory (waiting_of s))) → IfSome r (λ x. IfOk x (λ _. t.stage ≡ Running)) → IfSome r (λ x. IfErr x (λ _. t.stage ≡ Ended)) → IfSome r (λ _. IsUnrefused s.stage)
      → ((IsUnrefused s.stage → ⊥) → IsUnrefused t.stage → ⊥) → GivesNeighbor v d axes coord element (shown s point) r (shown t point)
  gives-neighbor same ready gives none over stays refused on last once ended =
      let root : t.root.now ≡ s.root.now = ap (λ b. b.now) same in
      let count = λ (going : IsUnrefused t.stage). subst (λ (q : ParentNode T E). CountsOpenings q (waiting_of t) t.opened) root (counted v d (table axes (coord point)) compare ties value o t ready going) in
      let goes_on : IfSome r (λ x. IfOk x (λ _. IsUnrefused t.stage)) = IfSome_then r on (λ x is. IfOk-weaker x _ _ (λ y on. subst IsUnrefused (sym on) tt) is) in
      let ends : IfSome r (λ x. IfErr x (λ _. IsUnrefused t.stage → ⊥)) = IfSome_then r last (λ x is. IfErr-weaker x _ _ (λ z ended going. subst IsUnrefused ended going) is) in
      assumption (
        cost v d (table axes (coord point)) compare ties value o s t ready root element r gives on,
        goes_on_at_end s.stage t.stage r stays,
        λ (going : IsUnrefused t.stage). (count going).counts,
        λ (going : IsUnrefused t.stage). (count going).fewer,
      )

pub goes-on : {I A : Type 0} {can : I → Type 0} {left : I → Count} {old new : I} (r : Option A) → can new → IsFinite (left new) → OnSome r (size (left new) < size (left old)) → MakesProgress can left old r new
goes-on None ready finite fewer = record { on = λ _. tt; keeps = tt; rests = λ _. finite }
goes-on (Some x) ready finite fewer = record { on = λ _. (ready, finite, fewer); keeps = ready; rests = λ _. tt }

-- where a push onto the queue is refused, the 32 places are taken
pub taken : {A Z : Type 0} (r : Result A Z) {z : Z} → r ≡ Err z → (n : ℕ) → (n < 32 → IsOk r) → 32 ≤ n
taken r is n fits = elim (cases_lt n 32) [
  | inl few ↦ absurd (cc (subst IsOk is (fits few)))
  | inr full ↦ full
]

-- a call that gives a value is not refused
pub ok-unrefused : {A Z : Type 0} (r : Result A Z) (P : Type 0) → IsOk r → OnErr r P
ok-unrefused (Ok x) P ok = tt
ok-unrefused (Err x) P ok = absurd (cc ok)

pub on_err : {A Z : Type 0} (r : Result A Z) (P : Type 0) → P → OnErr r P
on_err (Ok x) P p = tt
on_err (Err x) P p = p
