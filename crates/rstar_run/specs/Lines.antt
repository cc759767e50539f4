-- The lines of an input, and how they are read.
use Rattle.std.specs.Prelude.{◌≡◌, ℕ, ◌<◌, List, [], ◌∷◌, length, Option, Some, IfSome, if◌then◌else◌, ◌==◌}
use Rattle.std.specs.Io.BufRead.{take_through, drop_through}
use Rattle.std.specs.Io.Buffered.{reader_remaining}
use Rattle.rstar_run.specs.declared.lines.Lines.{Lines}

-- a byte, and then the bytes of the first line
abbrev pub into_first : ℕ → List (List ℕ) → List (List ℕ)
into_first byte [] = (byte ∷ []) ∷ []
into_first byte (line ∷ lines) = (byte ∷ line) ∷ lines

-- the lines of an input, each with its LF; the last may lack it
abbrev pub lines_of : List ℕ → List (List ℕ)
lines_of [] = []
lines_of (byte ∷ bytes) = if byte == 10 then (byte ∷ []) ∷ lines_of bytes else into_first byte (lines_of bytes)

-- the bytes that a reader of lines has left
abbrev pub bytes_left : {R : Type 0} → (R → Option (List ℕ)) → Lines R → Option (List ℕ)
bytes_left remaining lines = reader_remaining (λ source. remaining source.0) lines.reader

-- the first line was taken from the bytes that were left
abbrev pub TakesLine : Option (List ℕ) → Option (List ℕ) → List ℕ → Type 0
TakesLine old new line = IfSome old (λ bytes.
    (0 < length line) × (line ≡ take_through 10 bytes) × (new ≡ Some (drop_through 10 bytes)))

-- some lines were taken, one after another
abbrev pub TakesLines : Option (List ℕ) → Option (List ℕ) → List (List ℕ) → Type 0
TakesLines old new [] = new ≡ old
TakesLines old new (line ∷ lines) = (mid : Option (List ℕ)) × TakesLine old mid line × TakesLines mid new lines
