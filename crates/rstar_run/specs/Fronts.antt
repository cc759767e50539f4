-- What stands in front of a text.
use Rattle.std.specs.Prelude.{ℕ, ◌==◌, if◌then◌else◌, List, [], ◌∷◌, take_while, slice_index_or}
use Rattle.std.specs.Char.{is_ascii_digit}
use Rattle.std.specs.List.{before_first}
use Rattle.rstar_run.specs.Words.{space, words_of}

-- the text from its first byte on that is no space
abbrev pub after_spaces : List ℕ → List ℕ
after_spaces [] = []
after_spaces (byte ∷ text) = if byte == space then after_spaces text else byte ∷ text

-- the bytes up to the first space
abbrev pub first_word : List ℕ → List ℕ
first_word text = before_first (λ byte. byte == space) text

-- the text from its first space on
abbrev pub after_word : List ℕ → List ℕ
after_word [] = []
after_word (byte ∷ text) = if byte == space then byte ∷ text else after_word text

-- the digits up to the first byte that is none
abbrev pub leading_digits : List ℕ → List ℕ
leading_digits text = take_while is_ascii_digit text

-- the word at a place, from 0 on; no byte where there are fewer words
abbrev pub word_at : List ℕ → ℕ → List ℕ
word_at text place = slice_index_or (words_of text) place []
