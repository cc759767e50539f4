-- What a run reads and prints.
use Rattle.std.specs.Prelude.{◌≡◌, ℕ, ◌+◌, ◌<◌, Bool, true, false, List, [], ◌∷◌, ◌++◌, length, decimal, codes, Option, IfSome, Result, Ok, Err, ⊤, ◌⊎◌}
use Rattle.std.specs.Global.{Vec}
use Rattle.std.specs.Io.KnownBytes.{IsAtEnd}
use Rattle.rstar.specs.declared.replay.Command.TheVariants as command
use Rattle.rstar_run.specs.Words.{words_of, without_end}
use Rattle.rstar_run.specs.Grammar.{line_of, entry_of}
use Rattle.rstar_run.specs.Items.{Item, Command, Reply, StoreStep}
use Rattle.rstar_run.specs.Statuses.{status_of}
use Rattle.rstar_run.specs.Texts.{SpellsReply, end_text}
use Rattle.rstar_run.specs.Lines.{lines_of, TakesLines}
use Rattle.rstar_run.specs.Prints.{AppendsFront, Prints, Tells}
use Rattle.rstar_run.specs.declared.command.Entry.{Entry}
use Rattle.rstar_run.specs.declared.command.Entry.TheVariants as entry
use Rattle.rstar_run.specs.declared.command.Line.{Line}
use Rattle.rstar_run.specs.declared.command.Line.TheVariants as line
use Rattle.rstar_run.specs.declared.stops.Stop.{Stop}
use Rattle.rstar_run.specs.declared.stops.Stop.TheVariants as stop

-- what a line means
abbrev pub meaning : List ℕ → Line
meaning line = line_of (words_of (without_end line))

-- what a line means inside a load
abbrev pub entry_meant : List ℕ → Entry
entry_meant line = entry_of (words_of (without_end line))

-- the items of one line of a load: one, or none where it is blank
abbrev pub IsEntry : Entry → List Item → Type 0
IsEntry entry.Blank items = items ≡ []
IsEntry (entry.Item item) items = items ≡ item ∷ []
IsEntry entry.Bad items = ⊥

-- the lines of a load, and their items, in order
abbrev pub Lists : List (List ℕ) → List Item → Type 0
Lists [] items = items ≡ []
Lists (line ∷ lines) items =
    (first : List Item) × (others : List Item)
    × IsEntry (entry_meant line) first × Lists lines others × (items ≡ first ++ others)

-- the store takes a step by a command, and the reply is said
abbrev pub StepSays : Command → List Item → List ℕ → List Item → Type 0
StepSays c old said new = (reply : Reply) × StoreStep old c reply new × SpellsReply reply said

-- what a line of this meaning says where the store holds `old`, and the store after it; `more` are the lines that it
-- takes besides its own, as a load does
abbrev pub LineSays : List Item → Line → List (List ℕ) → List ℕ → List Item → Type 0
LineSays old line.Blank more said new = (more ≡ []) × (said ≡ []) × (new ≡ old)
LineSays old (line.Command c) more said new = (more ≡ []) × StepSays c old said new
LineSays old line.Size more said new = (more ≡ []) × (said ≡ decimal (length old) ++ codes "\n") × (new ≡ old)
LineSays old (line.Load count) more said new =
    (list : Vec Item) × Lists more list.items × (length list.items ≡ count) × StepSays (command.Load list) old said new
LineSays old line.Bad more said new = ⊥

-- what the lines of one turn say: the first, and those that it takes
abbrev pub TurnSays : List Item → List (List ℕ) → List ℕ → List Item → Type 0
TurnSays old [] said new = ⊥
TurnSays old (first ∷ more) said new = LineSays old (meaning first) more said new

-- the lines of some turns
abbrev pub lines_in : List (List (List ℕ)) → List (List ℕ)
lines_in [] = []
lines_in (turn ∷ turns) = turn ++ lines_in turns

-- what turns say, one after another, and the store after them
abbrev pub TurnsSay : List Item → List (List (List ℕ)) → List ℕ → List Item → Type 0
TurnsSay old [] said new = (said ≡ []) × (new ≡ old)
TurnsSay old (turn ∷ turns) said new =
    (first : List ℕ) × (others : List ℕ) × (store : List Item)
    × TurnSays old turn first store × TurnsSay store turns others new × (said ≡ first ++ others)

-- no line of a load comes next: a bad one does, or the end of the input
abbrev pub IsNoEntry : List (List ℕ) → Type 0
IsNoEntry [] = ⊤
IsNoEntry (line ∷ lines) = entry_meant line ≡ entry.Bad

-- behind a line of this meaning, the first line that is bad, counted from that one as the first
abbrev pub BreaksAt : Line → List (List ℕ) → ℕ → Type 0
BreaksAt line.Bad rest at = at ≡ 1
BreaksAt (line.Load count) rest at =
    (good : List (List ℕ)) × (bad : List (List ℕ)) × (items : List Item)
    × (rest ≡ good ++ bad) × Lists good items × (length items < count) × IsNoEntry bad × (at ≡ length good + 2)
BreaksAt _ rest at = ⊥

-- these lines start with a bad one, or with a load that breaks off; the bad line is the one of this number, from 1
abbrev pub StartsBad : List (List ℕ) → ℕ → Type 0
StartsBad [] at = ⊥
StartsBad (first ∷ rest) at = BreaksAt (meaning first) rest at

-- why a run ends after n lines, before the rest of them: there is no rest, or it starts with a bad line, by its number
abbrev pub EndsBefore : Result (Unit {0}) Stop → ℕ → List (List ℕ) → Type 0
EndsBefore (Ok _) n rest = rest ≡ []
EndsBefore (Err (stop.Line number)) n rest = (at : ℕ) × (number ≡ n + at) × StartsBad rest at
EndsBefore (Err stop.Memory) n rest = ⊤
EndsBefore (Err stop.Input) n rest = ⊤
EndsBefore (Err stop.Output) n rest = ⊤

-- a run: its turns (a line, with those of a load) answer the first lines of the input with `said`, and it ends before
-- the rest (`EndsBefore`)
pub record RunSays (input : Option (List ℕ)) (ended : Result (Unit {0}) Stop) (said : List ℕ) : Type 0 where
  pub turns : List (List (List ℕ))
  pub rest : List (List ℕ)
  pub store : List Item
  pub input_is : IfSome input (λ bytes. lines_of bytes ≡ lines_in turns ++ rest)
  pub says : TurnsSay [] turns said store
  pub why : EndsBefore ended (length (lines_in turns)) rest

-- a whole run: the output has its answers and its end's error line, and the status is that of the end. After a failed
-- write the status is 4, and the output has a prefix of them.
pub record Ran (input old new : Option (List ℕ)) (status : ℕ) : Type 0 where
  pub ended : Result (Unit {0}) Stop
  pub said : List ℕ
  pub run : RunSays input ended said
  pub printed : Tells old new (said ++ end_text ended) (status_of ended) status

-- ---- what a call reads

-- a read that stops without a line: memory was refused, or a read or a write failed
abbrev pub IsNoLine : Stop → Type 0
IsNoLine (stop.Line n) = ⊥
IsNoLine stop.Memory = ⊤
IsNoLine stop.Input = ⊤
IsNoLine stop.Output = ⊤

-- the first lines of those that were left were taken, and counted; they are those of these items
pub record TakesItems (left left' : Option (List ℕ)) (number number' : ℕ) (items : List Item) : Type 0 where
  pub lines : List (List ℕ)
  pub taken : TakesLines left left' lines
  pub lists : Lists lines items
  pub count : number' ≡ number + length lines

-- a load breaks off at the line of this number, and these lines were read; none comes behind them at the end
pub record LoadBreaks (count : ℕ) (left left' : Option (List ℕ)) (number n : ℕ) : Type 0 where
  pub lines : List (List ℕ)
  pub good : List (List ℕ)
  pub items : List Item
  pub taken : TakesLines left left' lines
  pub lists : Lists good items
  pub few : length items < count
  pub number_is : n ≡ number + (length good + 1)
  pub breaks : (more : List (List ℕ)) → (IsAtEnd left' → more ≡ [])
      → (bad : List (List ℕ)) × (lines ++ more ≡ good ++ bad) × IsNoEntry bad

-- the lines of a load of so many items are read
abbrev pub ReadsLoad : ℕ → Option (List ℕ) → Option (List ℕ) → ℕ → ℕ → Result (Vec Item) Stop → Type 0
ReadsLoad count left left' number number' (Ok list) =
    TakesItems left left' number number' list.items × (length list.items ≡ count)
ReadsLoad count left left' number number' (Err (stop.Line n)) =
    (mid : Option (List ℕ)) × LoadBreaks count left mid number n
ReadsLoad count left left' number number' (Err stop.Memory) = ⊤
ReadsLoad count left left' number number' (Err stop.Input) = ⊤
ReadsLoad count left left' number number' (Err stop.Output) = ⊤

-- the first lines of those that were left were taken, and counted; they are those of one turn, and say `said`
pub record TakesTurn (left left' : Option (List ℕ)) (number number' : ℕ) (store : List Item) (said : List ℕ)
    (store' : List Item) : Type 0 where
  pub lines : List (List ℕ)
  pub taken : TakesLines left left' lines
  pub count : number' ≡ number + length lines
  pub says : TurnSays store lines said store'

-- the turn breaks off at the line of this number, and these lines were read; none comes behind them at the end
pub record TurnBreaks (left left' : Option (List ℕ)) (number n : ℕ) : Type 0 where
  pub lines : List (List ℕ)
  pub at : ℕ
  pub taken : TakesLines left left' lines
  pub number_is : n ≡ number + at
  pub breaks : (more : List (List ℕ)) → (IsAtEnd left' → more ≡ []) → StartsBad (lines ++ more) at

-- one turn: its lines in and its answer out, false at the end of the input; the output and what is held for it are
-- `old` and `held` before, `new` and `held'` after
abbrev pub Turn : Option (List ℕ) → Option (List ℕ) → ℕ → ℕ → List Item → List Item
    → Option (List ℕ) → Option (List ℕ) → List ℕ → List ℕ → Result Bool Stop → Type 0
Turn left left' number number' store store' old new held held' (Ok true) =
    (said : List ℕ) × TakesTurn left left' number number' store said store' × Prints old new held said held'
Turn left left' number number' store store' old new held held' (Ok false) =
    IsAtEnd left × (store' ≡ store) × Prints old new held [] held'
Turn left left' number number' store store' old new held held' (Err (stop.Line n)) =
    ((mid : Option (List ℕ)) × TurnBreaks left mid number n) × Prints old new held [] held'
Turn left left' number number' store store' old new held held' (Err stop.Memory) = Prints old new held [] held'
Turn left left' number number' store store' old new held held' (Err stop.Input) = Prints old new held [] held'
Turn left left' number number' store store' old new held held' (Err stop.Output) =
    AppendsFront old new held
    ⊎ ((said : List ℕ) × TakesTurn left left' number number' store said store' × AppendsFront old new (held ++ said))
