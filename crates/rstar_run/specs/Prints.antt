-- What stands on an output, and what is held for it. An output is known by its bytes, `None` where std does not
-- know them.
use Rattle.std.specs.Prelude.{◌≡◌, ◌⊎◌, ℕ, List, [], ◌++◌, Option, Result, Ok, Err}
use Rattle.std.specs.Io.KnownBytes.{Appends}
use Rattle.rstar_run.specs.declared.stops.Stop.{Stop}
use Rattle.rstar_run.specs.declared.stops.Stop.TheVariants as stop

-- some front of a text was appended to the output
pub record AppendsFront (old new : Option (List ℕ)) (text : List ℕ) : Type 0 where
  pub front : List ℕ
  pub rest : List ℕ
  pub appended : Appends old new front
  pub text_is : text ≡ front ++ rest

-- a text is printed behind what was held: some front of both stands on the output, and the rest is held now
pub record Prints (old new : Option (List ℕ)) (held text held' : List ℕ) : Type 0 where
  pub front : List ℕ
  pub appended : Appends old new front
  pub text_is : held ++ text ≡ front ++ held'

-- a text is printed whole, but that where a write failed some front of it stands on the output, and no more is printed
abbrev pub Printed : {A : Type 0} → Result A Stop
    → Option (List ℕ) → Option (List ℕ) → List ℕ → List ℕ → List ℕ → Type 0
Printed (Ok _) old new held text held' = Prints old new held text held'
Printed (Err (stop.Line _)) old new held text held' = Prints old new held text held'
Printed (Err stop.Memory) old new held text held' = Prints old new held text held'
Printed (Err stop.Input) old new held text held' = Prints old new held text held'
Printed (Err stop.Output) old new held text held' = AppendsFront old new (held ++ text)

-- a text of this kind is printed whole; where memory was refused nothing is, where a write failed a front of such a text
abbrev pub PrintsSome : (List ℕ → Type 0) → Option (List ℕ) → Option (List ℕ) → List ℕ → List ℕ
    → Result (Unit {0}) Stop → Type 0
PrintsSome Kind old new held held' (Ok _) = (text : List ℕ) × Kind text × Prints old new held text held'
PrintsSome Kind old new held held' (Err (stop.Line _)) = ⊥
PrintsSome Kind old new held held' (Err stop.Memory) = Prints old new held [] held'
PrintsSome Kind old new held held' (Err stop.Input) = ⊥
PrintsSome Kind old new held held' (Err stop.Output) = (text : List ℕ) × Kind text × AppendsFront old new (held ++ text)

-- the text is written whole, and the status is this one; or a write failed, the status is 4, and a prefix of the text
-- is written
abbrev pub Tells : Option (List ℕ) → Option (List ℕ) → List ℕ → ℕ → ℕ → Type 0
Tells old new text told status =
    ((status ≡ told) × Appends old new text) ⊎ ((status ≡ 4) × AppendsFront old new text)
