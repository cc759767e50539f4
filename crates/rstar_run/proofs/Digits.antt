-- Numbers in front of a text.
use Rattle.std.proofs.Common.{◌≡◌, ◌≢◌, ℕ, ◌+◌, ◌-◌, ◌*◌, ◌%◌, ◌^◌, ◌<◌, ◌≤◌, Bool, true, false, cond, List, [], ◌∷◌, ◌++◌, length, length-append, get_or, take, drop, refl, ◌∙◌, sym, ap, add-one, append_assoc, append-nil, take_all, arith}
use Rattle.std.specs.Prelude.{◌==◌, ◌&&◌, not, nat_lt, Some, None}
use Rattle.std.proofs.Math.Seq.{take-append_seam}
use Rattle.std.proofs.Math.Nat.{pow-suc, pow-le-pow_right, mod-eq_of_lt}
use Rattle.std.proofs.lemmas.Bool.Decides.{nat_tests}
use Rattle.std.proofs.lemmas.Int.Digits.{digits_value_push}
use Rattle.std.proofs.lemmas.List.Sums.{take_while-cons}
use Rattle.std.proofs.lemmas.Str.{digit_value_digit}
use Rattle.std.proofs.lemmas.Str.Parse.{digits_value_short, numerals_by_value, tells_all_ascii_digits}
use Rattle.std.specs.Char.{is_ascii_digit, digit_value}
use Rattle.std.specs.Str.{all_ascii_digits}
use Rattle.std.specs.Str.Parse.{digits_value}
use Rattle.rstar_run.specs.Numerals.{unsigned_of}
use Rattle.rstar_run.proofs.Numerals.{and_false}
use Rattle.rstar_run.proofs.Fronts.{first_word-space, first_word-other, after_word-other}
use Rattle.rstar_run.specs.Fronts.{leading_digits, first_word, after_word}

leading_digits-yes : (byte : ℕ) (text : List ℕ) → is_ascii_digit byte ≡ true → leading_digits (byte ∷ text) ≡ byte ∷ leading_digits text
leading_digits-yes byte text is = take_while-cons is_ascii_digit byte text ∙ ap (λ b. cond b (byte ∷ leading_digits text) []) is

leading_digits-no : (byte : ℕ) (text : List ℕ) → is_ascii_digit byte ≡ false → leading_digits (byte ∷ text) ≡ []
leading_digits-no byte text is = take_while-cons is_ascii_digit byte text ∙ ap (λ b. cond b (byte ∷ leading_digits text) []) is

-- the digits that were taken off a text, and the number that they spell, where they are few
pub record DigitsSoFar (text rest : List ℕ) (value : ℕ) : Type 0 where
  pub front : List ℕ
  pub joined : text ≡ front ++ rest
  pub digits : leading_digits text ≡ front ++ leading_digits rest
  pub spelled : length front ≤ 19 → value ≡ digits_value 10 front
  pub small : length front ≤ 19 → value < 10 ^ length front

pub no_digit : (text : List ℕ) → DigitsSoFar text text 0
no_digit text = record { front = []; joined = refl; digits = refl; spelled = λ few. refl; small = λ few. omega arith }

-- at most 19 digits wrap nothing
wraps_not : (value digit count : ℕ) → value < 10 ^ count → digit < 10 → count + 1 ≤ 19 → (value * 10 % 2 ^ 64 + digit) % 2 ^ 64 ≡ value * 10 + digit
wraps_not value digit count small below few =
    let most : 10 ^ count ≤ 10 ^ 18 = pow-le-pow_right {n = 10} (omega arith) {i = count} {j = 18} (omega arith) in
    let one : value * 10 < 2 ^ 64 = omega arith in
    let both : value * 10 + digit < 2 ^ 64 = omega arith in
    rw (mod-eq_of_lt one) (mod-eq_of_lt both)

-- one more digit
digit_more : (text : List ℕ) (byte : ℕ) (rest : List ℕ) (value : ℕ) → DigitsSoFar text (byte ∷ rest) value → is_ascii_digit byte ≡ true → digit_value byte < 10
    → DigitsSoFar text rest ((value * 10 % 2 ^ 64 + digit_value byte) % 2 ^ 64)
digit_more text byte rest value s is below =
    let new = (value * 10 % 2 ^ 64 + digit_value byte) % 2 ^ 64 in
    let one_more = length-append s.front (byte ∷ []) in
    let new_is : length (s.front ++ byte ∷ []) ≤ 19 → new ≡ value * 10 + digit_value byte = λ few. wraps_not value (digit_value byte) (length s.front) (s.small (omega arith)) below (omega arith) in
    record {
      front = s.front ++ byte ∷ [];
      joined = s.joined ∙ sym (append_assoc s.front (byte ∷ []) rest);
      digits = s.digits ∙ ap (λ l. s.front ++ l) (leading_digits-yes byte rest is) ∙ sym (append_assoc s.front (byte ∷ []) (leading_digits rest));
      spelled = λ few. new_is few ∙ ap (λ v. v * 10 + digit_value byte) (s.spelled (omega arith)) ∙ sym (digits_value_push 10 s.front byte);
      small = λ few.
          let before = s.small (omega arith) in
          let power : 10 ^ length (s.front ++ byte ∷ []) ≡ 10 ^ length s.front * 10 = rw one_more (rw add-one (pow-suc 10 (length s.front))) in
          omega (arith, new_is few);
    }

-- a byte at most 9 above '0' is a digit, and that distance its value
pub digit_taken : (text rest : List ℕ) (value byte least : ℕ) → DigitsSoFar text rest value → 1 ≤ length rest → byte ≡ get_or rest 0 0 → least ≡ 48 → byte < 2 ^ 64
    → (byte + (2 ^ 64 - least)) % 2 ^ 64 ≤ 9
    → DigitsSoFar text (take (length rest - 1) (drop 1 rest)) ((value * 10 % 2 ^ 64 + (byte + (2 ^ 64 - least)) % 2 ^ 64) % 2 ^ 64)
digit_taken text [] value byte least s some at z fits few = absurd (omega arith)
digit_taken text (first ∷ rest) value byte least s some at z fits few =
    let low : 48 ≤ first = omega arith in
    let high : first ≤ 57 = omega arith in
    let is : is_ascii_digit first ≡ true = grind (arith, nat_tests) in
    let distance : (byte + (2 ^ 64 - least)) % 2 ^ 64 ≡ digit_value first = omega (arith, digit_value_digit first (low, high)) in
    let tail : take (length (first ∷ rest) - 1) rest ≡ rest = take_all _ rest (omega arith) in
    rw (tail, distance) (digit_more text first rest value s is (omega (arith, digit_value_digit first (low, high))))

-- no digit is left
pub digits_end : (text rest : List ℕ) (value : ℕ) → DigitsSoFar text rest value → leading_digits rest ≡ [] → (length (leading_digits text) ≤ 19 → value ≡ digits_value 10 (leading_digits text)) × (text ≡ leading_digits text ++ rest)
digits_end text rest value s none =
    let all : leading_digits text ≡ s.front = s.digits ∙ ap (λ l. s.front ++ l) none ∙ append-nil s.front in
    (λ few. s.spelled (rw all at few) ∙ ap (λ l. digits_value 10 l) (sym all), s.joined ∙ ap (λ l. l ++ rest) (sym all))

pub none_left : (rest : List ℕ) → length rest < 1 → leading_digits rest ≡ []
none_left [] none = refl
none_left (byte ∷ rest) none = absurd (omega arith)

pub first_no_digit : (rest : List ℕ) (byte least : ℕ) → byte ≡ get_or rest 0 0 → least ≡ 48 → 9 < (byte + (2 ^ 64 - least)) % 2 ^ 64 → leading_digits rest ≡ []
first_no_digit [] byte least at z far = refl
first_no_digit (first ∷ rest) byte least at z far =
    let outside : is_ascii_digit first ≡ false = outside_of first byte least at z far in
    leading_digits-no first rest outside
  where
    outside_of : (first byte least : ℕ) → byte ≡ first → least ≡ 48 → 9 < (byte + (2 ^ 64 - least)) % 2 ^ 64 → is_ascii_digit first ≡ false
    outside_of first byte least at z far = grind (arith, nat_tests)

digit_no_space : (byte : ℕ) → is_ascii_digit byte ≡ true → (byte == 32) ≡ false
digit_no_space byte is = grind (arith, nat_tests)

-- what a first word is that begins with digits: these alone, where no word begins behind them, and else no number
pub record FirstDigits (text rest : List ℕ) : Type 0 where
  pub all : all_ascii_digits (leading_digits text) ≡ true
  pub word : first_word rest ≡ [] → first_word text ≡ leading_digits text
  pub behind : first_word rest ≡ [] → after_word text ≡ rest
  pub other : first_word rest ≢ [] → all_ascii_digits (first_word text) ≡ false

pub first_digits : (text rest : List ℕ) → text ≡ leading_digits text ++ rest → FirstDigits text rest
first_digits [] rest e = record { all = refl; word = λ none. refl; behind = λ none. e; other = λ some. absurd (some (ap first_word (sym e))) }
first_digits (byte ∷ text) rest e = by_byte (is_ascii_digit byte) refl (first_digits text rest) where
  by_byte : (b : Bool) → is_ascii_digit byte ≡ b → (text ≡ leading_digits text ++ rest → FirstDigits text rest) → FirstDigits (byte ∷ text) rest
  by_byte true is shorter =
      let digits = leading_digits-yes byte text is in
      let no = digit_no_space byte is in
      let joined : byte ∷ text ≡ byte ∷ (leading_digits text ++ rest) = e ∙ ap (λ l. l ++ rest) digits in
      let more : text ≡ leading_digits text ++ rest = cc in
      let s = shorter more in
      record {
        all = rw (digits, is) s.all;
        word = λ none. rw (first_word-other byte text no, digits) (ap (λ l. byte ∷ l) (s.word none));
        behind = λ none. after_word-other byte text no ∙ s.behind none;
        other = λ some. rw (first_word-other byte text no, is) (s.other some);
      }
  by_byte false is shorter = by_space (byte == 32) refl where
    digits : leading_digits (byte ∷ text) ≡ []
    digits = leading_digits-no byte text is

    same : byte ∷ text ≡ rest
    same = e ∙ ap (λ l. l ++ rest) digits

    by_space : (b : Bool) → (byte == 32) ≡ b → FirstDigits (byte ∷ text) rest
    by_space true space =
        let none : first_word (byte ∷ text) ≡ [] = first_word-space byte text space in
        record {
          all = rw digits refl;
          word = λ _. none ∙ sym digits;
          behind = λ _. ap (λ b. cond b (byte ∷ text) (after_word text)) space ∙ same;
          other = λ some. absurd (some (ap first_word (sym same) ∙ none));
        }
    by_space false space =
        let some : first_word (byte ∷ text) ≡ byte ∷ first_word text = first_word-other byte text space in
        record {
          all = rw digits refl;
          word = λ none. ap first_word same ∙ none ∙ sym digits;
          behind = λ none. absurd (let e : byte ∷ first_word text ≡ [] = sym some ∙ ap first_word same ∙ none in cc);
          other = λ _. ap all_ascii_digits some ∙ ap (λ b. b && all_ascii_digits (first_word text)) is;
        }

module _ (text rest : List ℕ) (taken : text ≡ leading_digits text ++ rest) where
  -- behind the digits the word goes on
  pub word_goes_on : first_word rest ≢ [] → None ≡ unsigned_of (first_word text)
  word_goes_on more = sym (rw ((first_digits text rest taken).other more, and_false (not (length (first_word text) == 0))) refl)

  module _ (ends : first_word rest ≡ []) where
    pub rest_behind : rest ≡ after_word text
    rest_behind = sym ((first_digits text rest taken).behind ends)

    count : length text - length rest ≡ length (leading_digits text)
    count = omega (arith, ap length taken, length-append (leading_digits text) rest)

    -- the word, as a part of the text
    pub word_taken : take (length text - length rest) text ≡ first_word text
    word_taken = ap (λ n. take n text) count ∙ ap (λ l. take (length (leading_digits text)) l) taken ∙ take-append_seam (leading_digits text) rest ∙ sym ((first_digits text rest taken).word ends)

    -- a word of at most 19 digits
    pub few_digits : (value : ℕ) → (length (leading_digits text) ≤ 19 → value ≡ digits_value 10 (leading_digits text)) → 1 ≤ length text - length rest → length text - length rest ≤ 19 → Some value ≡ unsigned_of (first_word text)
    few_digits value spelled some few =
        let s = first_digits text rest taken in
        let digits = leading_digits text in
        let is_count = count in
        let value_is : digits_value 10 digits ≡ value = sym (spelled (omega arith)) in
        let small : digits_value 10 digits < 10 ^ 19 = digits_value_short (numerals_by_value _ tells_all_ascii_digits) digits 19 s.all (omega arith) in
        let fits : nat_lt value (2 ^ 64) ≡ true = grind (arith, nat_tests) in
        let has : (length digits == 0) ≡ false = grind (arith, nat_tests) in
        sym (ap unsigned_of (s.word ends) ∙ rw (has, s.all, value_is, fits) refl)
