-- The first word of a text.
use Rattle.std.proofs.Common.{◌≡◌, ℕ, ◌+◌, Bool, true, false, cond, List, [], ◌∷◌, length, get_or, drop, refl, ◌∙◌, sym, ap, arith}
use Rattle.std.specs.Prelude.{◌==◌, not, filter, IsTrue, ◌↔◌}
use Rattle.std.proofs.lemmas.Bool.{false≢true}
use Rattle.std.proofs.lemmas.Bool.Decides.{nat_tests}
use Rattle.std.proofs.lemmas.List.Sums.{take_while-cons}
use Rattle.std.proofs.lemmas.List.{get_or-drop}
use Rattle.rstar_run.specs.Fronts.{first_word, after_word, after_spaces, word_at}
use Rattle.rstar_run.specs.Words.{words_of}
use Rattle.std.specs.List.{slice_split, onto_first}
use Rattle.std.proofs.lemmas.List.Splits.{slice_split-cons_yes, slice_split-cons_no}

-- a first word, byte by byte
pub first_word-space : (byte : ℕ) (text : List ℕ) → (byte == 32) ≡ true → first_word (byte ∷ text) ≡ []
first_word-space byte text is = take_while-cons (λ b. not (b == 32)) byte text ∙ ap (λ b. cond (not b) (byte ∷ first_word text) []) is

pub first_word-other : (byte : ℕ) (text : List ℕ) → (byte == 32) ≡ false → first_word (byte ∷ text) ≡ byte ∷ first_word text
first_word-other byte text is = take_while-cons (λ b. not (b == 32)) byte text ∙ ap (λ b. cond (not b) (byte ∷ first_word text) []) is

pub after_word-other : (byte : ℕ) (text : List ℕ) → (byte == 32) ≡ false → after_word (byte ∷ text) ≡ after_word text
after_word-other byte text is = ap (λ b. cond b (byte ∷ text) (after_word text)) is

-- the words of a text, from its first on
words_of-space : (byte : ℕ) (text : List ℕ) → (byte == 32) ≡ true → words_of (byte ∷ text) ≡ words_of text
words_of-space byte text is = ap (λ parts. filter (λ word. not (length word == 0)) parts) (slice_split-cons_yes (λ b. b == 32) byte text is)

-- the pieces of a text behind its first space
record Pieces (text : List ℕ) : Type 0 where
  pub others : List (List ℕ)
  pub all : slice_split (λ b. b == 32) text ≡ first_word text ∷ others
  pub words : filter (λ word. not (length word == 0)) others ≡ words_of (after_word text)

pieces : (text : List ℕ) → Pieces text
pieces [] = record { others = []; all = refl; words = refl }
pieces (byte ∷ text) = by_space (byte == 32) refl (pieces text) where
  by_space : (b : Bool) → (byte == 32) ≡ b → Pieces text → Pieces (byte ∷ text)
  by_space true is shorter = record {
    others = slice_split (λ b. b == 32) text;
    all = slice_split-cons_yes (λ b. b == 32) byte text is ∙ ap (λ l. l ∷ slice_split (λ b. b == 32) text) (sym (first_word-space byte text is));
    words = sym (ap (λ b. words_of (cond b (byte ∷ text) (after_word text))) is ∙ words_of-space byte text is);
  }
  by_space false is shorter = record {
    others = shorter.others;
    all = slice_split-cons_no (λ b. b == 32) byte text is ∙ ap (onto_first byte) shorter.all ∙ ap (λ l. l ∷ shorter.others) (sym (first_word-other byte text is));
    words = shorter.words ∙ ap words_of (sym (after_word-other byte text is));
  }

words_of-other : (byte : ℕ) (text : List ℕ) → (byte == 32) ≡ false → words_of (byte ∷ text) ≡ first_word (byte ∷ text) ∷ words_of (after_word (byte ∷ text))
words_of-other byte text is =
    let p = pieces (byte ∷ text) in
    let one_more = first_word-other byte text is in
    let some : (length (first_word (byte ∷ text)) == 0) ≡ false = rw one_more (grind (arith, nat_tests)) in
    ap (λ parts. filter (λ word. not (length word == 0)) parts) p.all
    ∙ ap (λ b. cond (not b) (first_word (byte ∷ text) ∷ filter (λ word. not (length word == 0)) p.others) (filter (λ word. not (length word == 0)) p.others)) some
    ∙ ap (λ l. first_word (byte ∷ text) ∷ l) p.words

-- the words of a text, and the text from its first word on
pub record FirstWord (words : List (List ℕ)) (text : List ℕ) : Type 0 where
  pub word : get_or words 0 [] ≡ first_word text
  pub behind : words_of (after_word text) ≡ drop 1 words
  pub none : text ≡ [] → words ≡ []
  pub some : words ≡ [] → text ≡ []

pub first_of : (text : List ℕ) → FirstWord (words_of text) (after_spaces text)
first_of [] = record { word = refl; behind = refl; none = λ e. refl; some = λ e. refl }
first_of (byte ∷ text) = by_space (byte == 32) refl (first_of text) where
  spaces : (b : Bool) → (byte == 32) ≡ b → after_spaces (byte ∷ text) ≡ cond b (after_spaces text) (byte ∷ text)
  spaces b is = ap (λ b. cond b (after_spaces text) (byte ∷ text)) is

  by_space : (b : Bool) → (byte == 32) ≡ b → FirstWord (words_of text) (after_spaces text) → FirstWord (words_of (byte ∷ text)) (after_spaces (byte ∷ text))
  by_space true is shorter = rw (spaces true is, words_of-space byte text is) shorter
  by_space false is shorter = rw (spaces false is, words_of-other byte text is) (record { word = refl; behind = refl; none = λ e. absurd cc; some = λ e. absurd cc })

pub word_at-first : (text : List ℕ) → word_at text 0 ≡ first_word (after_spaces text)
word_at-first text = (first_of text).word

pub words_of-after_word : (text : List ℕ) → words_of (after_word (after_spaces text)) ≡ drop 1 (words_of text)
words_of-after_word text = (first_of text).behind

pub blank : (text rest : List ℕ) (b : Bool) → b ≡ (length rest == 0) → rest ≡ after_spaces text → IsTrue b ↔ (words_of text ≡ [])
blank text [] b e is = (λ t. (first_of text).none (sym is), λ none. e)
blank text (byte ∷ rest) b e is =
    (λ t. absurd (false≢true (sym (let n : (length (byte ∷ rest) == 0) ≡ false = grind (arith, nat_tests) in e ∙ n) ∙ t)), λ none. absurd (let some : byte ∷ rest ≡ [] = is ∙ (first_of text).some none in cc))

pub ruleset first_words = (word_at-first, words_of-after_word)

-- the words behind some of a text
pub word_behind : (text rest : List ℕ) (count place : ℕ) → words_of rest ≡ drop count (words_of text) → word_at rest place ≡ word_at text (count + place)
word_behind text rest count place e = ap (λ words. get_or words place []) e ∙ get_or-drop count (words_of text) place []
