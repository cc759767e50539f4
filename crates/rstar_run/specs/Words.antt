-- Lines and their words.
use Rattle.std.specs.Prelude.{ℕ, ◌-◌, not, ◌==◌, if◌then◌else◌, List, length, filter, take, slice_index}
use Rattle.std.specs.List.{slice_split}

-- the byte of a space
abbrev pub space : ℕ
space = 32

-- what stands between spaces, where something does
abbrev pub words_of : List ℕ → List (List ℕ)
words_of text = filter (λ word. not (length word == 0)) (slice_split (λ byte. byte == space) text)

-- a line without its LF, and without a CR right before that
abbrev pub without_end : List ℕ → List ℕ
without_end line =
    if slice_index line (length line - 1) == 10
    then (if slice_index line (length line - 2) == 13 then take (length line - 2) line else take (length line - 1) line)
    else line
