-- Points, a line each.
use Rattle.std.specs.Prelude.{◌≡◌, ℕ, ◌+◌, List, [], ◌∷◌, ◌++◌, length, codes, Option, Some, None, IfSome, Result, Ok, Err, ⊤}
use Rattle.std.specs.Fmt.{signed_decimal}
use Rattle.std.specs.Global.{Vec}
use Rattle.std.specs.List.{flat_map}
use Rattle.rstar.specs.Segments.{coordinate}
use Rattle.rstar_run.specs.Grammar.{point_of}
use Rattle.rstar_run.specs.Items.{Point}
use Rattle.rstar_run.specs.Lines.{lines_of}
use Rattle.rstar_run.specs.Numerals.{◌>>=◌}
use Rattle.rstar_run.specs.Words.{words_of, without_end}
use Rattle.rstar_run.specs.declared.points.PointLine.{PointLine}
use Rattle.rstar_run.specs.declared.points.PointLine.TheVariants as line
use Rattle.rstar_run.specs.declared.stops.Stop.{Stop}
use Rattle.rstar_run.specs.declared.stops.Stop.TheVariants as stop

-- a line of two words
abbrev pub spot_of : List ℕ → List ℕ → Option PointLine
spot_of x y = do
  p ← point_of x y
  Some (line.Point p)

-- a line that has words
abbrev pub listed : Option PointLine → PointLine
listed None = line.Bad
listed (Some l) = l

-- what a line of these words is in a list of points
abbrev pub point_line_of : List (List ℕ) → PointLine
point_line_of [] = line.Blank
point_line_of (x ∷ y ∷ []) = listed (spot_of x y)
point_line_of _ = line.Bad

-- what a line means there
abbrev pub point_meant : List ℕ → PointLine
point_meant text = point_line_of (words_of (without_end text))

-- the points of one line: one, or none where it is blank; nothing where it is bad
abbrev pub points_at : PointLine → Option (List Point)
points_at line.Blank = Some []
points_at (line.Point p) = Some (p ∷ [])
points_at line.Bad = None

-- the points of some lines, in order; nothing where one of them is bad
abbrev pub points_in : List (List ℕ) → Option (List Point)
points_in [] = Some []
points_in (text ∷ texts) = do
  first ← points_at (point_meant text)
  others ← points_in texts
  Some (first ++ others)

-- the line of this number, from 1 on, is bad, and no line before it is
pub record IsFirstBad (lines : List (List ℕ)) (number : ℕ) : Type 0 where
  pub good : List (List ℕ)
  pub points : List Point
  pub bad : List ℕ
  pub rest : List (List ℕ)
  pub lines_are : lines ≡ good ++ bad ∷ rest
  pub none_before : points_in good ≡ Some points
  pub is_bad : point_meant bad ≡ line.Bad
  pub number_is : number ≡ length good + 1

-- why the lines of an input are not read as points: the first bad one, refused memory or a failed read
abbrev pub StopsReading : Option (List ℕ) → Stop → Type 0
StopsReading input (stop.Line number) = IfSome input (λ bytes. IsFirstBad (lines_of bytes) number)
StopsReading input stop.Memory = ⊤
StopsReading input stop.Input = ⊤
StopsReading input stop.Output = ⊥

-- the points of all lines of an input, or why there are none
abbrev pub ReadsPoints : Option (List ℕ) → Result (Vec Point) Stop → Type 0
ReadsPoints input (Ok list) = IfSome input (λ bytes. points_in (lines_of bytes) ≡ Some list.items)
ReadsPoints input (Err stop) = StopsReading input stop

-- the line of a point
abbrev pub point_text : Point → List ℕ
point_text p =
    signed_decimal (coordinate p 0) ++ (codes " " ++ (signed_decimal (coordinate p 1) ++ codes "\n"))

-- the lines of some points
abbrev pub points_text : List Point → List ℕ
points_text ps = flat_map point_text ps
