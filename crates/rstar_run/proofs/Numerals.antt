-- Numbers that are read digit by digit.
use Rattle.std.proofs.Common.{◌≡◌, ℕ, zero, suc, ◌+◌, ◌-◌, ◌*◌, ◌<◌, ◌≤◌, ◌^◌, Bool, true, false, List, [], ◌∷◌, length, get_or, take, drop, cond, ℤ, w64, Option, subst, refl, ◌∙◌, sym, ap, arith, Some, None, add-one, take_all}
use Rattle.std.specs.Prelude.{FitsSigned, nat_le, pos, neg_ℤ, ◌&&◌, nat_lt, not, ◌==◌}
use Rattle.std.specs.Char.{is_ascii_digit, digit_value}
use Rattle.std.specs.Str.{all_ascii_digits}
use Rattle.std.specs.Str.Parse.{digits_value}
use Rattle.std.proofs.lemmas.Bool.Decides.{nat_tests}
use Rattle.std.proofs.lemmas.Str.Parse.{digits_value-take-le}
use Rattle.std.proofs.lemmas.Str.{digit_value_digit}
use Rattle.std.proofs.lemmas.Int.Digits.{digits_value_more}
use Rattle.rstar_run.specs.Numerals.{◌>>=◌, is_numeral, unsigned_of, signed_of, has_minus, negated, plain}

pub and_false : (a : Bool) → (a && false) ≡ false
and_false true = refl
and_false false = refl

-- a byte that is no digit
digits-none : (bs : List ℕ) (i : ℕ) → i < length bs → is_ascii_digit (get_or bs i 0) ≡ false → all_ascii_digits bs ≡ false
digits-none [] i h k = absurd (omega arith)
digits-none (b ∷ bs) zero h k = ap (λ a. a && all_ascii_digits bs) k
digits-none (b ∷ bs) (suc i) h k = ap (λ a. is_ascii_digit b && a) (digits-none bs i (omega arith) k) ∙ and_false (is_ascii_digit b)

-- one more digit
digits-suc : (bs : List ℕ) (i : ℕ) → i < length bs → all_ascii_digits (take i bs) ≡ true → is_ascii_digit (get_or bs i 0) ≡ true → all_ascii_digits (take (suc i) bs) ≡ true
digits-suc [] i h k d = absurd (omega arith)
digits-suc (b ∷ bs) zero h k d = ap (λ a. a && true) d
digits-suc (b ∷ bs) (suc i) h k d = both (is_ascii_digit b) (all_ascii_digits (take i bs)) (all_ascii_digits (take (suc i) bs)) k (λ e. digits-suc bs i (omega arith) e d) where
  both : (a p q : Bool) → (a && p) ≡ true → (p ≡ true → q ≡ true) → (a && q) ≡ true
  both true p q h f = f h
  both false p q h f = h

pub digits-more : (bs : List ℕ) (i : ℕ) → i < length bs → all_ascii_digits (take i bs) ≡ true → is_ascii_digit (get_or bs i 0) ≡ true → all_ascii_digits (take (i + 1) bs) ≡ true
digits-more bs i h k d = rw add-one (digits-suc bs i h k d)

-- a byte that is a digit adds its value
pub value-more : (bs : List ℕ) (i v : ℕ) → i < length bs → digits_value 10 (take i bs) ≡ v → is_ascii_digit (get_or bs i 0) ≡ true → digits_value 10 (take (i + 1) bs) ≡ v * 10 + (get_or bs i 0 - 48)
value-more bs i v h e d =
    let more = digits_value_more 10 bs i h in
    let digit : digit_value (get_or bs i 0) + 48 ≡ get_or bs i 0 = digit_value_digit (get_or bs i 0) (grind (arith, nat_tests)) in
    omega arith

pub none-by_byte : (bs : List ℕ) (i : ℕ) → i < length bs → is_ascii_digit (get_or bs i 0) ≡ false → None ≡ unsigned_of bs
none-by_byte bs i h k =
    let no : all_ascii_digits bs ≡ false = digits-none bs i h k in
    sym (rw (no, and_false (not (length bs == 0))) refl)

pub none-by_size : (bs : List ℕ) (i : ℕ) → 2 ^ 64 ≤ digits_value 10 (take i bs) → None ≡ unsigned_of bs
none-by_size bs i h =
    let least : digits_value 10 (take i bs) ≤ digits_value 10 bs = digits_value-take-le 10 bs i (omega arith) in
    let no : nat_lt (digits_value 10 bs) (2 ^ 64) ≡ false = grind (arith, nat_tests) in
    sym (rw (no, and_false (is_numeral bs)) refl)

pub some-value : (bs : List ℕ) (i v : ℕ) → length bs ≤ i → 0 < length bs → digits_value 10 (take i bs) ≡ v → all_ascii_digits (take i bs) ≡ true → v < 2 ^ 64 → Some v ≡ unsigned_of bs
some-value bs i v all some e d small =
    let e' : digits_value 10 bs ≡ v = rw (take_all i bs all) at e in
    let d' : all_ascii_digits bs ≡ true = rw (take_all i bs all) at d in
    let a : (length bs == 0) ≡ false = grind (arith, nat_tests) in
    let b : nat_lt v (2 ^ 64) ≡ true = grind (arith, nat_tests) in
    sym (rw (a, d', e', b) refl)

-- a number that a word spells with a sign is one of 64 bits
negated_fits : (n : ℕ) → n ≤ 2 ^ 63 → FitsSigned w64 (neg_ℤ (pos n))
negated_fits zero h = omega arith
negated_fits (suc n) h = omega arith

pub signed_fits : (word : List ℕ) (z : ℤ) → Some z ≡ signed_of word → FitsSigned w64 z
signed_fits word z e = by_sign (has_minus word) (unsigned_of (drop 1 word)) (unsigned_of word) e where
  by_size : (b : Bool) (n : ℤ) → (b ≡ true → FitsSigned w64 n) → Some z ≡ cond b (Some n) None → FitsSigned w64 z
  by_size true n fits e = let is : z ≡ n = cc in subst (λ (n : ℤ). FitsSigned w64 n) (sym is) (fits refl)
  by_size false n fits e = absurd cc

  by_sign : (b : Bool) (p q : Option ℕ) → Some z ≡ cond b (p >>= negated) (q >>= plain) → FitsSigned w64 z
  by_sign true None q e = absurd cc
  by_sign true (Some n) q e = by_size (nat_le n (2 ^ 63)) (neg_ℤ (pos n)) (λ t. negated_fits n (grind (arith, nat_tests))) e
  by_sign false p None e = absurd cc
  by_sign false p (Some n) e = by_size (nat_lt n (2 ^ 63)) (pos n) (λ t. grind (arith, nat_tests)) e
