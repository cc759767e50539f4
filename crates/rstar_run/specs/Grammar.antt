-- What a line means.
use Rattle.std.specs.Prelude.{◌≡◌, ℕ, ℤ, false, List, [], ◌∷◌, Option, Some, None, codes, if◌then◌else◌, ⊤}
use Rattle.std.specs.Str.{bytes_eq}
use Rattle.rstar.specs.Steps.{IsFit}
use Rattle.rstar.specs.declared.replay.Command.TheVariants as command
use Rattle.rstar.specs.declared.replay.Query.TheVariants as query
use Rattle.rstar_run.specs.Items.{box_between, item_of, questions}
use Rattle.rstar_run.specs.Numerals.{◌>>=◌, unsigned_of, signed_of}
use Rattle.rstar_run.specs.declared.items.Corners.{Corners}
use Rattle.rstar_run.specs.declared.command.Verb.{Verb}
use Rattle.rstar_run.specs.declared.command.Verb.TheVariants.{Insert, Remove, RemoveAt, Pop, Drain, In, Hit, At, Within, Near, Size, Load}
use Rattle.rstar_run.specs.declared.command.Line.{Line}
use Rattle.rstar_run.specs.declared.command.Line.TheVariants as line
use Rattle.rstar_run.specs.declared.command.Entry.{Entry}
use Rattle.rstar_run.specs.declared.command.Entry.TheVariants as entry

-- a point
abbrev pub point_of : List ℕ → List ℕ → Option (List ℤ)
point_of x y = do
  x' ← signed_of x
  y' ← signed_of y
  Some (x' ∷ y' ∷ [])

-- two corners
abbrev pub corners_of : List ℕ → List ℕ → List ℕ → List ℕ → Option Corners
corners_of x1 y1 x2 y2 = do
  one' ← point_of x1 y1
  other' ← point_of x2 y2
  Some (record { one = one'; other = other' })

-- the verb that a word is
abbrev pub verb_of : List ℕ → Option Verb
verb_of word =
    if bytes_eq word (codes "insert") then Some Insert else (
    if bytes_eq word (codes "remove") then Some Remove else (
    if bytes_eq word (codes "removeat") then Some RemoveAt else (
    if bytes_eq word (codes "pop") then Some Pop else (
    if bytes_eq word (codes "drain") then Some Drain else (
    if bytes_eq word (codes "in") then Some In else (
    if bytes_eq word (codes "hit") then Some Hit else (
    if bytes_eq word (codes "at") then Some At else (
    if bytes_eq word (codes "within") then Some Within else (
    if bytes_eq word (codes "near") then Some Near else (
    if bytes_eq word (codes "size") then Some Size else (
    if bytes_eq word (codes "load") then Some Load else None)))))))))))

-- the drain that the word after `drain` names
abbrev pub drain_of : List ℕ → Corners → ℕ → Option Line
drain_of area corners most =
    if bytes_eq area (codes "in") then Some (line.Command (command.Drain (query.In (box_between corners)) most)) else (
    if bytes_eq area (codes "hit") then Some (line.Command (command.Drain (query.Hit (box_between corners)) most)) else None)

-- a line of a verb and the words after it
abbrev pub command_of : Verb → List (List ℕ) → Option Line
command_of Insert (id ∷ x1 ∷ y1 ∷ x2 ∷ y2 ∷ []) = do
  id' ← unsigned_of id
  corners ← corners_of x1 y1 x2 y2
  Some (line.Command (command.Insert (item_of id' corners)))
command_of Remove (id ∷ x1 ∷ y1 ∷ x2 ∷ y2 ∷ []) = do
  id' ← unsigned_of id
  corners ← corners_of x1 y1 x2 y2
  Some (line.Command (command.Remove (item_of id' corners)))
command_of RemoveAt (x ∷ y ∷ []) = do
  p ← point_of x y
  Some (line.Command (command.RemoveAtPoint p))
command_of Pop (x ∷ y ∷ []) = do
  p ← point_of x y
  Some (line.Command (command.PopNearest p))
command_of Drain (area ∷ x1 ∷ y1 ∷ x2 ∷ y2 ∷ most ∷ []) = do
  corners ← corners_of x1 y1 x2 y2
  most' ← unsigned_of most
  drain_of area corners most'
command_of In (x1 ∷ y1 ∷ x2 ∷ y2 ∷ []) = do
  corners ← corners_of x1 y1 x2 y2
  Some (line.Command (command.Ask (query.In (box_between corners))))
command_of Hit (x1 ∷ y1 ∷ x2 ∷ y2 ∷ []) = do
  corners ← corners_of x1 y1 x2 y2
  Some (line.Command (command.Ask (query.Hit (box_between corners))))
command_of At (x ∷ y ∷ []) = do
  p ← point_of x y
  Some (line.Command (command.Ask (query.At p)))
command_of Within (x ∷ y ∷ limit ∷ []) = do
  p ← point_of x y
  limit' ← signed_of limit
  Some (line.Command (command.Ask (query.Within p limit')))
command_of Near (x ∷ y ∷ most ∷ []) = do
  p ← point_of x y
  most' ← unsigned_of most
  Some (line.Command (command.Neighbours p most'))
command_of Size [] = Some line.Size
command_of Load (count ∷ []) = do
  count' ← unsigned_of count
  Some (line.Load count')
command_of _ _ = None

-- a line that has words
abbrev pub known : Option Line → Line
known None = line.Bad
known (Some l) = l

-- what a line of these words is
abbrev pub line_of : List (List ℕ) → Line
line_of [] = line.Blank
line_of (word ∷ args) = known (do
  verb ← verb_of word
  command_of verb args)

-- a rectangle of a load
abbrev pub rectangle_of : List ℕ → List ℕ → List ℕ → List ℕ → List ℕ → Option Entry
rectangle_of id x1 y1 x2 y2 = do
  id' ← unsigned_of id
  corners ← corners_of x1 y1 x2 y2
  Some (entry.Item (item_of id' corners))

-- a line of a load that has words
abbrev pub listed : Option Entry → Entry
listed None = entry.Bad
listed (Some e) = e

-- what a line of these words is inside a load
abbrev pub entry_of : List (List ℕ) → Entry
entry_of [] = entry.Blank
entry_of (id ∷ x1 ∷ y1 ∷ x2 ∷ y2 ∷ []) = listed (rectangle_of id x1 y1 x2 y2)
entry_of _ = entry.Bad

-- the tree can run the command of a line
abbrev pub CanRun : Line → Type 0
CanRun (line.Command c) = IsFit questions 2 c
CanRun _ = ⊤

-- the rectangle of a line of a load is not empty
abbrev pub IsFilled : Entry → Type 0
IsFilled (entry.Item item) = questions.is_empty (questions.box_of item) ≡ false
IsFilled _ = ⊤
