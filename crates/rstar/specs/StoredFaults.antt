-- Why bytes spell no tree of points: what each refusal of a reader says of them.
use Rattle.std.specs.Prelude.{◌≡◌, ◌≢◌, ◌<◌, ◌≤◌, ◌+◌, ◌*◌, ◌^◌, ◌⊎◌, ℕ, zero, suc, List, ◌∷◌, ◌++◌, length, map, take, ⊤}
use Rattle.std.specs.List.{AllByRecursion}
use Rattle.rstar.specs.declared.stored.StoredError.{StoredError}
use Rattle.rstar.specs.declared.stored.StoredError.TheVariants.{Truncated, BadMagic, BadLevel, BadBox, BadCount, Trailing, NoMemory, TooHigh}
use Rattle.rstar.specs.Nodes.{joined}
use Rattle.rstar.specs.Stored.{Tree, merge_of, points_of, IsStored, IsStoredTree, Spells, magic, number, corners, spelling, root_spelling}

-- ---- a parent that begins these bytes

-- they begin with its child count, behind which this holds
abbrev pub HasCount : List ℕ → (ℕ → List ℕ → Type 0) → Type 0
HasCount bytes Behind = (count : ℕ) × (rest : List ℕ) × (bytes ≡ number count ++ rest) × (count < 2 ^ 64) × Behind count rest

-- they begin with its child count, at least 1, its box, and the spellings of some children with their leaves so many
-- levels below; the bytes that its box and so many leaves take are there
pub record BeginsParent (below : ℕ) (bytes : List ℕ) (count : ℕ) (box : List ℕ) (children : List Tree) (rest : List ℕ) : Type 0 where
  pub parts : bytes ≡ number count ++ box ++ joined (map spelling children) ++ rest
  pub counted : (0 < count) × (count < 2 ^ 64)
  pub boxed : length box ≡ 32
  pub there : 8 + 32 + 16 * count ≤ length bytes
  pub stored : AllByRecursion (IsStored below) children

-- its box is not the merge of its children's, all of which are spelled
abbrev pub HasOtherBox : ℕ → List ℕ → Type 0
HasOtherBox below bytes =
    (count : ℕ) × (box : List ℕ) × (children : List Tree) × (rest : List ℕ)
    × BeginsParent below bytes count box children rest × (length children ≡ count) × (box ≢ corners (merge_of children))

-- behind its first children, which are spelled, one has a fault
abbrev pub HasFaultBehind : ℕ → List ℕ → (List ℕ → Type 0) → Type 0
HasFaultBehind below bytes Fault =
    (count : ℕ) × (box : List ℕ) × (children : List Tree) × (rest : List ℕ)
    × BeginsParent below bytes count box children rest × (length children < count) × Fault rest

-- its own fault: bytes are lacking for its child count, or for its box and so many leaves, at least one; it has no children;
-- its box is another
abbrev pub ParentHasFault : ℕ → List ℕ → StoredError → Type 0
ParentHasFault below bytes Truncated = (length bytes < 8) ⊎ HasCount bytes (λ count rest. (0 < count) × (length rest < 32 + 16 * count))
ParentHasFault below bytes BadLevel = HasCount bytes (λ count rest. count ≡ 0)
ParentHasFault below bytes BadBox = HasOtherBox below bytes
ParentHasFault below bytes _ = ⊥

-- a node that begins these bytes, with its leaves this many levels below, has a fault: a leaf lacks bytes; a parent has
-- its own, or one of its children has one
abbrev pub NodeHasFault : ℕ → List ℕ → StoredError → Type 0
NodeHasFault zero bytes e = (e ≡ Truncated) × (length bytes < 16)
NodeHasFault (suc below) bytes e = ParentHasFault below bytes e ⊎ HasFaultBehind below bytes (λ rest. NodeHasFault below rest e)

-- ---- the whole

-- the bytes begin with the magic, a number of points and a number of levels of parents
pub record BeginsTree (bytes : List ℕ) (count height : ℕ) (rest : List ℕ) : Type 0 where
  pub parts : bytes ≡ magic ++ number count ++ height ∷ rest
  pub counted : count < 2 ^ 64

-- behind them the root has this fault
abbrev pub RootHasFault : List ℕ → StoredError → Type 0
RootHasFault bytes e =
    (count : ℕ) × (below : ℕ) × (rest : List ℕ)
    × BeginsTree bytes count (suc below) rest × (below < 64) × NodeHasFault (suc below) rest e

-- the fault of bytes that spell no tree: `Truncated`, a part is too short (behind the
-- magic, where four bytes are there); `BadMagic`, other bytes than `RST1`;
-- `BadLevel`, a height above 64 or a parent without children; `BadBox`, a box that is not the merge; `BadCount`,
-- another number of points; `Trailing`, bytes after the tree
abbrev pub HasFault : List ℕ → StoredError → Type 0
HasFault bytes Truncated = ((length bytes < 13) × (4 ≤ length bytes → take 4 bytes ≡ magic)) ⊎ RootHasFault bytes Truncated
HasFault bytes BadMagic = (4 ≤ length bytes) × (take 4 bytes ≢ magic)
HasFault bytes BadLevel =
    ((count : ℕ) × (height : ℕ) × (rest : List ℕ) × BeginsTree bytes count height rest × (64 < height))
    ⊎ RootHasFault bytes BadLevel
HasFault bytes BadBox = RootHasFault bytes BadBox
HasFault bytes BadCount =
    (count : ℕ) × (height : ℕ) × (t : Tree) × (rest : List ℕ)
    × BeginsTree bytes count height (root_spelling height t ++ rest) × (height ≤ 64) × IsStoredTree height t
    × (length (points_of t) ≢ count)
HasFault bytes Trailing =
    (front : List ℕ) × (rest : List ℕ) × (t : Tree) × (bytes ≡ front ++ rest) × (0 < length rest) × Spells front t
HasFault bytes NoMemory = ⊤
HasFault bytes TooHigh = ⊥

-- the bytes have this fault alone
abbrev pub IsOnlyFault : List ℕ → StoredError → Type 0
IsOnlyFault bytes e = (d : StoredError) → d ≢ NoMemory → HasFault bytes d → d ≡ e
