-- The words of a line, piece by piece.
use Rattle.std.proofs.Common.{◌≡◌, ℕ, zero, suc, ◌+◌, ◌<◌, ◌≤◌, Bool, true, false, List, [], ◌∷◌, length, get_or, take, arith, cond, map, ap, Bor}
use Rattle.std.specs.Prelude.{filter, not, ◌==◌}
use Rattle.std.specs.List.{slice_split}
use Rattle.std.proofs.lemmas.Bool.Decides.{nat_tests}
use Rattle.std.proofs.lemmas.List.{length-map}
use Rattle.rstar_run.specs.Words.{words_of}

-- one more piece that passes, after the first k
pub filter-longer : {X : Type 0} (p : X → Bool) (xs : List X) (k : ℕ) (x : X) → k < length xs → x ≡ get_or xs k x → p x ≡ true → length (filter p (take k xs)) + 1 ≤ length (filter p xs)
filter-longer p [] k x h e t = absurd (omega arith)
filter-longer p (y ∷ ys) zero x h e t = first (p y) (rw (← e) t) where
  first : (b : Bool) → b ≡ true → length (filter p []) + 1 ≤ length (cond b (y ∷ filter p ys) (filter p ys))
  first true t = omega arith
  first false t = cc
filter-longer p (y ∷ ys) (suc k) x h e t = next (p y) (filter-longer p ys k x (omega arith) e t) where
  next : (b : Bool) → length (filter p (take k ys)) + 1 ≤ length (filter p ys) → length (cond b (y ∷ filter p (take k ys)) (filter p (take k ys))) + 1 ≤ length (cond b (y ∷ filter p ys) (filter p ys))
  next true h = omega arith
  next false h = h

-- a word past the first n
pub more_words : (text : List ℕ) (words : List (Bor (List ℕ))) (k n : ℕ) (word : List ℕ) → map (λ word. word.now) words ≡ filter (λ word. not (length word == 0)) (take k (slice_split (λ byte. byte == 32) text))
    → k < length (slice_split (λ byte. byte == 32) text) → word ≡ get_or (slice_split (λ byte. byte == 32) text) k word
    → (length word == 0) ≡ false → (length words == n) ≡ true → n < length (words_of text)
more_words text words k n word held at same some full =
    let all = slice_split (λ byte. byte == 32) text in
    let test : List ℕ → Bool = λ word. not (length word == 0) in
    let longer = filter-longer test all k word at same (ap not some) in
    let long : length (map (λ (word : Bor (List ℕ)). word.now) words) ≡ length (filter test (take k all)) = ap length held in
    let same_length = length-map words (λ (word : Bor (List ℕ)). word.now) in
    let n_words : length words ≡ n = grind (arith, nat_tests) in
    omega arith
