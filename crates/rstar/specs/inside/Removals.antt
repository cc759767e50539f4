-- What a removal takes out.
use Rattle.std.specs.Prelude.{◌≡◌, List, ◌∷◌, ◌++◌, Option, Some, None}

-- new is old without one x
pub record IsTakenOut {T : Type 0} (old : List T) (x : T) (new : List T) : Type 0 where
  pub before : List T
  pub after : List T
  pub was : old ≡ before ++ x ∷ after
  pub is : new ≡ before ++ after

-- new is old without what was given, if anything was
abbrev pub IsWithout : {T : Type 0} → List T → Option T → List T → Type 0
IsWithout old None new = new ≡ old
IsWithout old (Some x) new = IsTakenOut old x new
