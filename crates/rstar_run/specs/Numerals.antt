-- Numbers, as words spell them.
use Rattle.std.specs.Prelude.{ℕ, ℤ, pos, neg_ℤ, ◌^◌, Bool, not, ◌&&◌, ◌==◌, nat_lt, nat_le, if◌then◌else◌, List, drop, length, Option, Some, None, slice_index}
use Rattle.std.specs.Str.{all_ascii_digits}
use Rattle.std.specs.Str.Parse.{digits_value}

-- `do x ← a; b` is what b says of the value of a, and none where a has none
infixl 10 ◌>>=◌
abbrev pub ◌>>=◌ : {A B : Type 0} → Option A → (A → Option B) → Option B
None >>= f = None
(Some x) >>= f = f x

-- one decimal digit or more, and nothing else
abbrev pub is_numeral : List ℕ → Bool
is_numeral word = not (length word == 0) && all_ascii_digits word

-- the number that digits spell, where 64 bits hold it
abbrev pub unsigned_of : List ℕ → Option ℕ
unsigned_of word =
    if is_numeral word && nat_lt (digits_value 10 word) (2 ^ 64) then Some (digits_value 10 word) else None

-- a number that is not negative, where a signed one of 64 bits holds it
abbrev pub plain : ℕ → Option ℤ
plain n = if nat_lt n (2 ^ 63) then Some (pos n) else None

-- a number with a minus in front, where a signed one of 64 bits holds it
abbrev pub negated : ℕ → Option ℤ
negated n = if nat_le n (2 ^ 63) then Some (neg_ℤ (pos n)) else None

-- the word begins with a minus
abbrev pub has_minus : List ℕ → Bool
has_minus word = slice_index word 0 == 45

-- the number that digits spell, with or without a minus in front
abbrev pub signed_of : List ℕ → Option ℤ
signed_of word =
    if has_minus word
    then (do
      n ← unsigned_of (drop 1 word)
      negated n)
    else (do
      n ← unsigned_of word
      plain n)
