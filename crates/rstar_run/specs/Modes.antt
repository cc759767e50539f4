-- What the words after the program's name ask for.
use Rattle.std.specs.Prelude.{ℕ, List, [], ◌∷◌, Option, Some, None, codes, if◌then◌else◌}
use Rattle.std.specs.Str.{bytes_eq}
use Rattle.rstar_run.specs.declared.modes.Mode.{Mode}
use Rattle.rstar_run.specs.declared.modes.Mode.TheVariants.{Run, Pack, Unpack}

-- the mode that one word names
abbrev pub mode_named : List ℕ → Option Mode
mode_named word =
    if bytes_eq word (codes "pack") then Some Pack else (
    if bytes_eq word (codes "unpack") then Some Unpack else None)

-- the mode of the words after the program's name: a run without words, `pack` or `unpack` alone, else none
abbrev pub mode_of : List (List ℕ) → Option Mode
mode_of [] = Some Run
mode_of (word ∷ []) = mode_named word
mode_of _ = None
