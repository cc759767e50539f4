-- Answers that are told at the end.
use Rattle.std.proofs.Common.{◌≡◌, inl, inr, ℕ, List, [], ◌++◌, Option, Result, Ok, Err, sym, subst}
use Rattle.std.specs.Prelude.{OnOk, IfErr}
use Rattle.std.specs.Io.KnownBytes.{Appends, Keeps}
use Rattle.std.proofs.KnownBytes.{Appends-trans}
use Rattle.rstar_run.specs.Prints.{AppendsFront, Prints, Tells}
use Rattle.rstar_run.specs.declared.stops.Stop.{Stop}
use Rattle.rstar_run.proofs.Prints.{front_kept, prints_front}

-- a text is printed, and then what is held is written
module _ (old mid new : Option (List ℕ)) (text held : List ℕ) (given status : ℕ) where
  all_told : Prints old mid [] text held → Tells mid new held given status → Tells old new text given status
  all_told p (inl (is, all)) = inl (is, subst (λ (l : List ℕ). Appends old new l) (sym p.text_is) (Appends-trans old mid new p.front held p.appended all))
  all_told p (inr (is, front)) = inr (is, prints_front p front)

  told_by : (printed : Result (Unit {0}) Stop) → OnOk printed (Prints old mid [] text held) → AppendsFront old mid ([] ++ text)
      → OnOk printed (Tells mid new held given status) → IfErr printed (λ _. (status ≡ 4) × Keeps mid new) → Tells old new text given status
  told_by (Ok _) all front tells failed = all_told all tells
  told_by (Err _) all front tells failed = inr (failed.0, front_kept new front failed.1)

  -- the same with nothing held at first
  pub told : (begun : List ℕ) → begun ≡ [] → (printed : Result (Unit {0}) Stop) → OnOk printed (Prints old mid begun text held) → AppendsFront old mid (begun ++ text)
      → OnOk printed (Tells mid new held given status) → IfErr printed (λ _. (status ≡ 4) × Keeps mid new) → Tells old new text given status
  told begun none printed all front =
      told_by printed (subst (λ (l : List ℕ). OnOk printed (Prints old mid l text held)) none all) (subst (λ (l : List ℕ). AppendsFront old mid (l ++ text)) none front)
