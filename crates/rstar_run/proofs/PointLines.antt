-- Points, line by line.
use Rattle.std.proofs.Common.{◌≡◌, ◌≢◌, ◌∙◌, ◌<◌, ◌+◌, ℕ, List, [], ◌∷◌, ◌++◌, length, length-append, map, Option, Some, None, IfSome, refl, sym, ap, Bor, append_assoc, append-nil, arith}
use Rattle.std.specs.Fmt.{signed_decimal}
use Rattle.std.specs.Prelude.{codes, ℤ}
use Rattle.std.specs.Io.KnownBytes.{IsAtEnd}
use Rattle.std.proofs.lemmas.List.{length-map}
use Rattle.rstar.specs.Segments.{coordinate}
use Rattle.rstar_run.specs.Items.{Point}
use Rattle.rstar_run.specs.Lines.{lines_of, TakesLine}
use Rattle.rstar_run.specs.Numerals.{◌>>=◌}
use Rattle.rstar_run.specs.Points.{point_line_of, point_meant, points_at, points_in, point_text, IsFirstBad}
use Rattle.rstar_run.specs.declared.points.PointLine.TheVariants as kind
use Rattle.rstar_run.proofs.Reading.{Reads, rest_of, reads_more, reads_rest, reads_all}

-- words of another number than a point has are bad
bad : (ws : List (List ℕ)) → length ws ≢ 0 → length ws ≢ 2 → kind.Bad ≡ point_line_of ws
bad [] h k = absurd (h refl)
bad (a ∷ []) h k = refl
bad (a ∷ b ∷ []) h k = absurd (k refl)
bad (a ∷ b ∷ c ∷ ws) h k = refl

-- the same of words that are lent
pub lent_bad : (ws : List (Bor (List ℕ))) → length ws ≢ 0 → length ws ≢ 2 → kind.Bad ≡ point_line_of (map (λ word. word.now) ws)
lent_bad ws h k = bad (map (λ word. word.now) ws) (rw length-map h) (rw length-map k)

pub long_bad : (ws : List (List ℕ)) → 8 < length ws → kind.Bad ≡ point_line_of ws
long_bad ws h = bad ws (λ e. omega (arith, e, h)) (λ e. omega (arith, e, h))

-- the points of one more line
points_behind : (p q r : Option (List Point)) (ps new : List Point) → (p >>= λ first. q >>= λ others. Some (first ++ others)) ≡ Some ps
    → ((qs : List Point) → q ≡ Some qs → r ≡ Some (qs ++ new)) → (p >>= λ first. r >>= λ others. Some (first ++ others)) ≡ Some (ps ++ new)
points_behind None q r ps new e more = absurd cc
points_behind (Some a) None r ps new e more = absurd cc
points_behind (Some a) (Some b) r ps new e more =
    let all : a ++ b ≡ ps = cc in
    let is : r ≡ Some (b ++ new) = more b refl in
    rw is (ap Some (sym (append_assoc a b new) ∙ ap (λ (l : List Point). l ++ new) all))

points_more : (lines : List (List ℕ)) (line : List ℕ) (ps new : List Point) → points_in lines ≡ Some ps → points_at (point_meant line) ≡ Some new → points_in (lines ++ line ∷ []) ≡ Some (ps ++ new)
points_more [] line ps new e x = let none : [] ≡ ps = cc in rw x (ap Some (append-nil new ∙ ap (λ (l : List Point). l ++ new) none))
points_more (l ∷ lines) line ps new e x = points_behind (points_at (point_meant l)) (points_in lines) (points_in (lines ++ line ∷ [])) ps new e (λ qs is. points_more lines line qs new is x)

-- how far the lines of an input are read
pub record PointsSoFar (input left : Option (List ℕ)) (number : ℕ) (points : List Point) : Type 0 where
  pub lines : List (List ℕ)
  pub reads : Reads input left lines
  pub good : points_in lines ≡ Some points
  pub count : number ≡ length lines

module _ {input left : Option (List ℕ)} {number : ℕ} {points : List Point} (so_far : PointsSoFar input left number points) where
  pub one_more : (left' : Option (List ℕ)) (number' : ℕ) (line : List ℕ) (new : List Point) → TakesLine left left' line → number' ≡ number + 1 → points_at (point_meant line) ≡ Some new → PointsSoFar input left' number' (points ++ new)
  one_more left' number' line new taken n x = record {
    lines = so_far.lines ++ line ∷ [];
    reads = reads_more input left left' so_far.lines line so_far.reads taken;
    good = points_more so_far.lines line points new so_far.good x;
    count = let c = so_far.count in omega (arith, n, c, length-append so_far.lines (line ∷ []));
  }

  -- the input ends
  pub all_read : IsAtEnd left → IfSome input (λ bytes. points_in (lines_of bytes) ≡ Some points)
  all_read at_end = known input (reads_all input left so_far.lines so_far.reads at_end) where
    known : (o : Option (List ℕ)) → IfSome o (λ bytes. lines_of bytes ≡ so_far.lines ++ []) → IfSome o (λ bytes. points_in (lines_of bytes) ≡ Some points)
    known None e = tt
    known (Some bytes) e = ap points_in (e ∙ append-nil so_far.lines) ∙ so_far.good

  -- a line is bad
  pub first_bad : (left' : Option (List ℕ)) (number' : ℕ) (line : List ℕ) → TakesLine left left' line → number' ≡ number + 1 → point_meant line ≡ kind.Bad → IfSome input (λ bytes. IsFirstBad (lines_of bytes) number')
  first_bad left' number' line taken n is_bad = known input (reads_rest input left' (so_far.lines ++ line ∷ []) (reads_more input left left' so_far.lines line so_far.reads taken)) where
    known : (o : Option (List ℕ)) → IfSome o (λ bytes. lines_of bytes ≡ (so_far.lines ++ line ∷ []) ++ rest_of left') → IfSome o (λ bytes. IsFirstBad (lines_of bytes) number')
    known None e = tt
    known (Some bytes) e = record {
      good = so_far.lines;
      points = points;
      bad = line;
      rest = rest_of left';
      lines_are = e ∙ append_assoc so_far.lines (line ∷ []) (rest_of left');
      none_before = so_far.good;
      is_bad = is_bad;
      number_is = let c = so_far.count in omega (arith, n, c);
    }

-- the line of a point, by its coordinates: from the first on, and from the second on
pub first_spelled : (p : Point) (x : ℤ) → x ≡ coordinate p 0 → point_text p ≡ signed_decimal x ++ (codes " " ++ (signed_decimal (coordinate p 1) ++ codes "\n"))
first_spelled p x is = rw is refl

pub second_spelled : (p : Point) (y : ℤ) → y ≡ coordinate p 1 → signed_decimal (coordinate p 1) ++ codes "\n" ≡ signed_decimal y ++ codes "\n"
second_spelled p y is = rw is refl
