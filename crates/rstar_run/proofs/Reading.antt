-- Lines that are read one after another.
use Rattle.std.proofs.Common.{◌≡◌, ◌∙◌, ℕ, zero, suc, ◌+◌, ◌<◌, zero-le, add-one, true≢false, take, drop, length-take-le, Bool, true, false, cond, eqb, List, [], ◌∷◌, ◌++◌, length, Option, Some, None, IfSome, refl, sym, ap, subst, append_assoc, append-nil, arith}
use Rattle.std.specs.Prelude.{slice_index, if◌then◌else◌, ◌==◌}
use Rattle.std.specs.Io.KnownBytes.{IsAtEnd, prepend_known}
use Rattle.memchr.specs.Find.{IsFirstByte, is_byte}
use Rattle.std.specs.Io.BufRead.{take_through, drop_through}
use Rattle.rstar_run.specs.Lines.{into_first, lines_of, TakesLine, TakesLines}

-- the first line of some bytes
cut : (bytes : List ℕ) (b : ℕ) → lines_of (b ∷ bytes) ≡ take_through 10 (b ∷ bytes) ∷ lines_of (drop_through 10 (b ∷ bytes))
cut [] b = alone (eqb b 10) where
  alone : (is_end : Bool) → cond is_end ((b ∷ []) ∷ []) ((b ∷ []) ∷ []) ≡ cond is_end (b ∷ []) (b ∷ []) ∷ lines_of (cond is_end [] [])
  alone true = refl
  alone false = refl
cut (c ∷ bytes) b = next (eqb b 10) (cut bytes c) where
  next : (is_end : Bool) → lines_of (c ∷ bytes) ≡ take_through 10 (c ∷ bytes) ∷ lines_of (drop_through 10 (c ∷ bytes))
      → cond is_end ((b ∷ []) ∷ lines_of (c ∷ bytes)) (into_first b (lines_of (c ∷ bytes)))
      ≡ cond is_end (b ∷ []) (b ∷ take_through 10 (c ∷ bytes)) ∷ lines_of (cond is_end (c ∷ bytes) (drop_through 10 (c ∷ bytes)))
  next true h = refl
  next false h = ap (into_first b) h

first_line : (bytes line : List ℕ) → 0 < length line → line ≡ take_through 10 bytes → lines_of bytes ≡ line ∷ lines_of (drop_through 10 bytes)
first_line [] line h e = absurd (omega (arith, ap length e))
first_line (b ∷ bytes) line h e = cut bytes b ∙ ap (λ (l : List ℕ). l ∷ lines_of (drop_through 10 (b ∷ bytes))) (sym e)

-- the lines that were read of some known bytes
abbrev pub Reads : Option (List ℕ) → Option (List ℕ) → List (List ℕ) → Type 0
Reads None new lines = Unit {0}
Reads (Some xs) None lines = ⊥
Reads (Some xs) (Some ys) lines = lines_of xs ≡ lines ++ lines_of ys

-- the lines that are left
abbrev pub rest_of : Option (List ℕ) → List (List ℕ)
rest_of None = []
rest_of (Some ys) = lines_of ys

pub reads_first : (u : Option (List ℕ)) → Reads u u []
reads_first None = tt
reads_first (Some xs) = refl

pub reads_more : (u v w : Option (List ℕ)) (lines : List (List ℕ)) (line : List ℕ) → Reads u v lines → TakesLine v w line → Reads u w (lines ++ line ∷ [])
reads_more None v w lines line r t = tt
reads_more (Some xs) None w lines line r t = absurd r
reads_more (Some xs) (Some ys) w lines line r (some, e, f) =
    subst (λ (o : Option (List ℕ)). Reads (Some xs) o (lines ++ line ∷ [])) (sym f)
    (r ∙ ap (λ (ls : List (List ℕ)). lines ++ ls) (first_line ys line some e) ∙ sym (append_assoc lines (line ∷ []) (lines_of (drop_through 10 ys))))

pub reads_rest : (u v : Option (List ℕ)) (lines : List (List ℕ)) → Reads u v lines → IfSome u (λ bytes. lines_of bytes ≡ lines ++ rest_of v)
reads_rest None v lines r = tt
reads_rest (Some xs) None lines r = absurd r
reads_rest (Some xs) (Some ys) lines r = r

-- more lines are read
pub reads_lines : (u v w : Option (List ℕ)) (lines more : List (List ℕ)) → Reads u v lines → TakesLines v w more → Reads u w (lines ++ more)
reads_lines u v w lines [] r e =
    subst (λ (o : Option (List ℕ)). Reads u o (lines ++ [])) (sym e) (subst (λ (ls : List (List ℕ)). Reads u v ls) (sym (append-nil lines)) r)
reads_lines u v w lines (line ∷ more) r (mid, t, ts) =
    subst (λ (ls : List (List ℕ)). Reads u w ls) (append_assoc lines (line ∷ []) more) (reads_lines u mid w (lines ++ line ∷ []) more (reads_more u v mid lines line r t) ts)

-- one more line is taken
pub takes_more : (u v w : Option (List ℕ)) (lines : List (List ℕ)) (line : List ℕ) → TakesLines u v lines → TakesLine v w line → TakesLines u w (lines ++ line ∷ [])
takes_more u v w [] line e t = (w, subst (λ (o : Option (List ℕ)). TakesLine o w line) e t, refl)
takes_more u v w (l ∷ lines) line (mid, t, ts) more = (mid, t, takes_more mid v w lines line ts more)

-- none is left at the end
pub none_at_end : (v : Option (List ℕ)) → IsAtEnd v → rest_of v ≡ []
none_at_end None h = refl
none_at_end (Some ys) h = ap lines_of h

pub reads_all : (u v : Option (List ℕ)) (lines : List (List ℕ)) → Reads u v lines → IsAtEnd v → IfSome u (λ bytes. lines_of bytes ≡ lines ++ [])
reads_all None v lines r e = tt
reads_all (Some xs) None lines r e = absurd r
reads_all (Some xs) (Some ys) lines r e = r ∙ ap (λ (l : List ℕ). lines ++ lines_of l) e

-- the first LF of some bytes stands at a place
through : (bytes rest : List ℕ) (at : ℕ) → at < length bytes → (slice_index bytes at == 10) ≡ true → ((k : ℕ) → k < at → (slice_index bytes k == 10) ≡ true → ⊥)
    → (take (suc at) bytes ≡ take_through 10 (bytes ++ rest)) × (drop (suc at) bytes ++ rest ≡ drop_through 10 (bytes ++ rest))
through [] rest at h e n = absurd (omega arith)
through (b ∷ bytes) rest zero h e n = here (eqb b 10) e where
  here : (is_end : Bool) → is_end ≡ true → (b ∷ [] ≡ cond is_end (b ∷ []) (b ∷ take_through 10 (bytes ++ rest))) × (bytes ++ rest ≡ cond is_end (bytes ++ rest) (drop_through 10 (bytes ++ rest)))
  here true e = (refl, refl)
  here false e = absurd (true≢false (sym e))
through (b ∷ bytes) rest (suc at) h e n = later (eqb b 10) (n 0 (omega arith)) (through bytes rest at (omega arith) e (λ k l. n (suc k) (omega arith))) where
  later : (is_end : Bool) → (is_end ≡ true → ⊥) → (take (suc at) bytes ≡ take_through 10 (bytes ++ rest)) × (drop (suc at) bytes ++ rest ≡ drop_through 10 (bytes ++ rest))
      → (b ∷ take (suc at) bytes ≡ cond is_end (b ∷ []) (b ∷ take_through 10 (bytes ++ rest))) × (drop (suc at) bytes ++ rest ≡ cond is_end (bytes ++ rest) (drop_through 10 (bytes ++ rest)))
  later true not_lf h = absurd (not_lf refl)
  later false not_lf (p, q) = (ap (λ (l : List ℕ). b ∷ l) p, q)

-- a line is taken out of what was read ahead
pub takes_held : (capacity capacity' : ℕ) (inner inner' : Option (List ℕ)) (ahead ahead' line : List ℕ) (end : ℕ) → IsFirstByte (is_byte 10) ahead (Some end) → line ≡ take (end + 1) ahead
    → capacity' ≡ capacity → inner' ≡ inner → ahead' ≡ drop (end + 1) ahead
    → TakesLine (if capacity == 0 then None else prepend_known ahead inner) (if capacity' == 0 then None else prepend_known ahead' inner') line
takes_held capacity capacity' inner inner' ahead ahead' line end (none_before, is_end) e c i a =
    rw (c, i, a) (takes (capacity == 0) inner (λ rest. through ahead rest end none_before.high is_end (λ k l. none_before.before k zero-le l))) where
      some : 0 < length line
      some = omega (arith, ap length e, length-take-le (end + 1) ahead (omega (arith, none_before.high)))

      takes : (unknown : Bool) (known : Option (List ℕ)) → ((rest : List ℕ) → (take (suc end) ahead ≡ take_through 10 (ahead ++ rest)) × (drop (suc end) ahead ++ rest ≡ drop_through 10 (ahead ++ rest)))
          → TakesLine (if unknown then None else prepend_known ahead known) (if unknown then None else prepend_known (drop (end + 1) ahead) known) line
      takes true known h = tt
      takes false None h = tt
      takes false (Some rest) h = (some, e ∙ rw add-one (h rest).0, ap Some (rw add-one (h rest).1))
