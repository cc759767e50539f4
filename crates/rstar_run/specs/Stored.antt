-- What is answered where trees are packed and unpacked.
use Rattle.std.specs.Prelude.{◌≡◌, ◌≢◌, ◌⊎◌, ◌<◌, ℕ, List, [], codes, Option, IfSome, Some, Result, Ok, Err}
use Rattle.std.specs.Global.{Vec}
use Rattle.std.specs.Cmp.Lexicographic.{slice_cmp}
use Rattle.std.specs.List.Sorted.{IsPermutation, IsSorted}
use Rattle.std.specs.Ordering.{int_cmp}
use Rattle.rstar.specs.Heights.{height_of}
use Rattle.rstar.specs.Loaded.{IsLoaded}
use Rattle.rstar.specs.Nodes.{elements_of, IsWhole}
use Rattle.rstar.specs.Shown.{shown_root}
use Rattle.rstar.specs.Stored.{Tree, boxes, places, points_of, Spells}
use Rattle.rstar.specs.StoredFaults.{HasFault}
use Rattle.rstar.specs.declared.node.ParentNode.{ParentNode}
use Rattle.rstar.specs.declared.stored.StoredError.{StoredError}
use Rattle.rstar.specs.declared.stored.StoredError.TheVariants.{Truncated, BadMagic, BadLevel, BadBox, BadCount, Trailing, NoMemory, TooHigh}
use Rattle.rstar_run.specs.Items.{Box, Point}
use Rattle.rstar_run.specs.Lines.{lines_of}
use Rattle.rstar_run.specs.Points.{points_in, points_text, StopsReading}
use Rattle.rstar_run.specs.Prints.{Tells}
use Rattle.rstar_run.specs.Statuses.{status_of}
use Rattle.rstar_run.specs.Texts.{stop_text}
use Rattle.rstar_run.specs.declared.stops.Stop.TheVariants as stop
use Rattle.rstar_run.specs.declared.stored.Fault.{Fault}
use Rattle.rstar_run.specs.declared.stored.Fault.TheVariants.{Usage, Stop, Stored}

-- ---- how faults are told

-- what is said where a tree could not be read or written
abbrev pub stored_text : StoredError → List ℕ
stored_text Truncated = codes "error: Truncated\n"
stored_text BadMagic = codes "error: BadMagic\n"
stored_text BadLevel = codes "error: BadLevel\n"
stored_text BadBox = codes "error: BadBox\n"
stored_text BadCount = codes "error: BadCount\n"
stored_text Trailing = codes "error: Trailing\n"
stored_text NoMemory = codes "error: memory\n"
stored_text TooHigh = codes "error: TooHigh\n"

-- what is said of a fault
abbrev pub fault_text : Fault → List ℕ
fault_text Usage = codes "error: usage\n"
fault_text (Stop stop) = stop_text stop
fault_text (Stored error) = stored_text error

-- 3 where memory was refused, otherwise 2
abbrev pub stored_status : StoredError → ℕ
stored_status Truncated = 2
stored_status BadMagic = 2
stored_status BadLevel = 2
stored_status BadBox = 2
stored_status BadCount = 2
stored_status Trailing = 2
stored_status NoMemory = 3
stored_status TooHigh = 2

-- the status of a fault
abbrev pub fault_status : Fault → ℕ
fault_status Usage = 2
fault_status (Stop stop) = status_of (Err stop)
fault_status (Stored error) = stored_status error

-- what is said of an answer, and its status
abbrev pub answer_text : {A : Type 0} → (A → List ℕ) → Result A Fault → List ℕ
answer_text text (Ok answer) = text answer
answer_text text (Err fault) = fault_text fault

abbrev pub answer_status : {A : Type 0} → Result A Fault → ℕ
answer_status (Ok answer) = 0
answer_status (Err fault) = fault_status fault

-- a call has an answer of this kind; the output has its text, and the status is that of the answer
pub record Answers {A : Type 0} (Kind : Result A Fault → Type 0) (text : A → List ℕ) (old new : Option (List ℕ))
    (status : ℕ) : Type 0 where
  pub answer : Result A Fault
  pub is : Kind answer
  pub told : Tells old new (answer_text text answer) (answer_status answer) status

-- ---- packing

-- the lines of an input are points, and this is the root of their load, of two axes, with the default size of a node
pub record LoadsInput (input : Option (List ℕ)) (root : ParentNode Point Box) : Type 0 where
  pub points : List Point
  pub read : IfSome input (λ text. points_in (lines_of text) ≡ Some points)
  pub just_those : IsPermutation points (elements_of root)
  pub whole : IsWhole boxes places root
  pub loaded : points ≢ [] → IsLoaded boxes places 6 2 root

-- the answer of `pack`: bytes that spell a bulk load of the points in the input's lines, or why there are none
abbrev pub Packs : Option (List ℕ) → Result (Vec ℕ) Fault → Type 0
Packs input (Ok bytes) = (root : ParentNode Point Box) × LoadsInput input root × Spells bytes.items (shown_root root)
Packs input (Err Usage) = ⊥
Packs input (Err (Stop stop)) = StopsReading input stop
Packs input (Err (Stored error)) =
    (error ≡ NoMemory) ⊎ ((error ≡ TooHigh) × (root : ParentNode Point Box) × LoadsInput input root × (64 < height_of root))

-- `pack` writes that answer
abbrev pub Packed : Option (List ℕ) → Option (List ℕ) → Option (List ℕ) → ℕ → Type 0
Packed input = Answers (Packs input) (λ bytes. bytes.items)

-- ---- unpacking

-- just the points of a tree, ascending by x and then by y
pub record ArePointsOf (t : Tree) (points : List Point) : Type 0 where
  pub just_those : IsPermutation (points_of t) points
  pub ascending : IsSorted (slice_cmp int_cmp) points

-- the bytes have this fault, and where that is no want of memory they spell no tree
abbrev pub AreRefused : StoredError → List ℕ → Type 0
AreRefused error bytes = HasFault bytes error × (error ≢ NoMemory → (t : Tree) → Spells bytes t → ⊥)

-- the answer of `unpack`: the points of the tree that the input spells, ascending, or why there are none
abbrev pub Unpacks : Option (List ℕ) → Result (Vec Point) Fault → Type 0
Unpacks input (Ok points) = (t : Tree) × IfSome input (λ bytes. Spells bytes t) × ArePointsOf t points.items
Unpacks input (Err Usage) = ⊥
Unpacks input (Err (Stop why)) = (why ≡ stop.Memory) ⊎ (why ≡ stop.Input)
Unpacks input (Err (Stored error)) = IfSome input (AreRefused error)

-- `unpack` prints that answer
abbrev pub Unpacked : Option (List ℕ) → Option (List ℕ) → Option (List ℕ) → ℕ → Type 0
Unpacked input = Answers (Unpacks input) (λ points. points_text points.items)
