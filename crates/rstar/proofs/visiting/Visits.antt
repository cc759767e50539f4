-- Walks by recursion, one part of a list after another.
use Rattle.std.proofs.Common.{◌≡◌, ◌<◌, ◌∙◌, List, [], ◌∷◌, ◌++◌, inl, inr, ap, subst, sym, refl, Bool, if◌then◌else◌, map, arith, Option, Some, None, filter}
use Rattle.std.specs.Borrow.{Bor}
use Rattle.std.specs.List.{Contains}
use Rattle.std.specs.declared.ops.ControlFlow.{ControlFlow}
use Rattle.std.specs.declared.ops.ControlFlow.TheVariants.{Continue, Break}
use Rattle.rstar.specs.declared.node.RTreeNode.{RTreeNode, Leaf, Parent}
use Rattle.rstar.specs.declared.node.ParentNode.{ParentNode}
use Rattle.rstar.specs.Nodes.{total, all_given, children_of}
use Rattle.rstar.specs.Visits.{IsFirst, IsOneOf, Visits, IsVisit, IsVisitWithin}
use Rattle.rstar.specs.inside.Traversals.{steps}
use Rattle.rstar.proofs.trees.ByChildren.{given-Leaf, given-Parent, steps-Leaf, steps-Parent}

-- ---- the first node

module _ {T E : Type 0} (accepts : E → Bool) (selects : T → Bool) where
  pub look-leaf : (ns rest : List (RTreeNode T E)) (n : RTreeNode T E) (t : T) (b : Bool) → ns ≡ n ∷ rest → n ≡ Leaf t → selects t ≡ b
      → (all_given accepts selects ns ≡ (if b then t ∷ [] else []) ++ all_given accepts selects rest) × (total (map steps rest) < total (map steps ns))
  look-leaf ns rest n t b is leaf says =
      let e = ap (λ l. total (map steps l)) is in let f = ap steps leaf ∙ steps-Leaf T E t in
      (rw (is, leaf, given-Leaf, says), omega arith)

  pub look-parent : (ns rest below : List (RTreeNode T E)) (n : RTreeNode T E) (p : ParentNode T E) (b : Bool) → ns ≡ n ∷ rest → n ≡ Parent p → accepts p.envelope ≡ b → below ≡ children_of p
      → (all_given accepts selects ns ≡ (if b then all_given accepts selects below else []) ++ all_given accepts selects rest)
      × (total (map steps rest) < total (map steps ns)) × (total (map steps below) < total (map steps ns))
  look-parent ns rest below n p b is parent says same =
      let e = ap (λ l. total (map steps l)) is in let f = ap steps parent ∙ steps-Parent p in let k = ap (λ l. total (map steps l)) same in
      (rw (is, parent, given-Parent, says, same), omega arith, omega arith)

-- ---- look-ups

-- the first of a list is one of it
pub one_of : {T : Type 0} (xs ys : List T) (r : Option (Bor T)) → xs ≡ ys → IsFirst xs r → IsOneOf ys r
one_of xs ys None e none = sym e ∙ none
one_of xs ys (Some x) e first = subst (λ l. Contains l x.now) (sym first.1 ∙ e) (0, omega arith, refl)

-- ---- visits

module _ {V A T B : Type 0} (now : A → T) (step : V → A → ControlFlow B (Unit {0}) → V → Type 0) where
  -- what went on goes on
  pub Visits-append : (v u : V) (xs ys : List T) (r : ControlFlow B (Unit {0})) (w : V)
      → Visits now step v xs (Continue tt) u → Visits now step u ys r w → Visits now step v (xs ++ ys) r w
  Visits-append v u [] ys r w a b = subst (λ s. Visits now step s ys r w) (sym a.1) b
  Visits-append v u (x ∷ xs) ys r w (inl a) b = cc a.3
  Visits-append v u (x ∷ xs) ys r w (inr a) b = inr (a.0, a.1, a.2, a.3, Visits-append a.1 u xs ys r w a.4 b)

  -- what broke stays broken
  pub Visits-break : (v : V) (xs ys : List T) (b : B) (w : V) → Visits now step v xs (Break b) w → Visits now step v (xs ++ ys) (Break b) w
  Visits-break v [] ys b w a = cc a.0
  Visits-break v (x ∷ xs) ys b w (inl a) = inl a
  Visits-break v (x ∷ xs) ys b w (inr a) = inr (a.0, a.1, a.2, a.3, Visits-break a.1 xs ys b w a.4)

  -- a visit of all
  pub visit_all : {all : Type 0} {v : V} {xs ys : List T} {r : ControlFlow B (Unit {0})}
      → xs ≡ ys → all → IsVisitWithin now step all v xs r → IsVisit now step v ys r
  visit_all {v = v} {r = r} same holds visit =
      record { last = visit.last; visits = subst (λ l. Visits now step v l r visit.last) (visit.within.complete holds ∙ same) visit.within.visits }

  -- the same of a question by another name
  pub visit_asked : {all : Type 0} {v : V} {asked selects : T → Bool} (ts : List T) {r : ControlFlow B (Unit {0})}
      → asked ≡ selects → all → IsVisitWithin now step all v (filter asked ts) r → IsVisit now step v (filter selects ts) r
  visit_asked ts same = visit_all (ap (λ s. filter s ts) same)

  -- a visit of none
  pub visits_none : (v : V) (xs : List T) → xs ≡ [] → Visits now step v xs (Continue tt) v
  visits_none v xs none = subst (λ l. Visits now step v l (Continue tt) v) (sym none) (refl, refl)
