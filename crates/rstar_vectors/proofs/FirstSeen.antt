-- What a visit whose calls all break tells.
use Rattle.std.proofs.Common.{◌≡◌, ◌∙◌, List, [], ◌∷◌, refl, sym, ap, subst, inl, inr}
use Rattle.std.specs.ControlFlow.{break_value}
use Rattle.std.specs.Borrow.{Bor}
use Rattle.std.specs.declared.ops.ControlFlow.{ControlFlow}
use Rattle.std.specs.declared.ops.ControlFlow.TheVariants.{Continue, Break}
use Rattle.rstar.specs.Visits.{Visits, IsVisit, IsFirst}

-- where each call breaks with what it was called at, the answer is the first that was to be visited
pub first_seen : {V T : Type 0} (step : V → Bor T → ControlFlow (Bor T) (Unit {0}) → V → Type 0) (v : V) (xs : List T) (r : ControlFlow (Bor T) (Unit {0}))
    → IsVisit (λ t. t.now) step v xs r → ((v : V) (x : Bor T) (r : ControlFlow (Bor T) (Unit {0})) (w : V) → step v x r w → r ≡ Break x)
    → IsFirst xs (break_value r)
first_seen {T = T} step v [] r visit breaks = subst (λ (s : ControlFlow (Bor T) (Unit {0})). IsFirst [] (break_value s)) (sym visit.visits.0) refl
first_seen {T = T} step v (t ∷ ts) r visit breaks = by_call visit.visits
  where
    by_call : Visits (λ x. x.now) step v (t ∷ ts) r visit.last → IsFirst (t ∷ ts) (break_value r)
    by_call (inl here) =
        subst (λ (s : ControlFlow (Bor T) (Unit {0})). IsFirst (t ∷ ts) (break_value s)) (sym (here.3 ∙ breaks v here.0 (Break here.1) visit.last here.4))
        (ts, ap (λ (u : T). u ∷ ts) (sym here.2))
    by_call (inr here) = cc (breaks v here.0 (Continue tt) here.1 here.3)
