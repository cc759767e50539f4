-- Reading stored trees from left to right, with the first fault that is met.
use Rattle.std.specs.Prelude.{◌≡◌, ◌==◌, ◌+◌, ◌*◌, ◌&&◌, ◌⊎◌, ℕ, ℤ, zero, suc, Bool, List, [], ◌∷◌, length, map, take, drop, Result, Ok, Err, nat_lt, nat_eq, if◌then◌else◌}
use Rattle.std.specs.Int.{w64, from_le_bytes, cast_signed}
use Rattle.std.specs.Ordering.{int_eq}
use Rattle.std.specs.Cmp.Lexicographic.{pointwise}
use Rattle.rstar.specs.declared.stored.StoredError.{StoredError}
use Rattle.rstar.specs.declared.stored.StoredError.TheVariants.{Truncated, BadMagic, BadLevel, BadBox, BadCount, Trailing, NoMemory}
use Rattle.rstar.specs.Shown.{leaf, parent, end, row_of}
use Rattle.rstar.specs.Stored.{Place, Box, Tree, boxes, merge_of, points_of, magic}

infixl 10 ◌>>=◌
abbrev pub ◌>>=◌ : {A B : Type 0} → Result A StoredError → (A → Result B StoredError) → Result B StoredError
(Ok x) >>= f = f x
(Err e) >>= f = Err e

-- a call answers what reading gives, unless memory is refused
abbrev pub Gives : {X Y : Type 0} → (X → Y) → Result X StoredError → Result Y StoredError → Type 0
Gives view (Ok x) read = read ≡ Ok (view x)
Gives view (Err e) read = (e ≡ NoMemory) ⊎ (read ≡ Err e)

-- a part that was read, and the bytes after it
abbrev pub Read : Type 0 → Type 0
Read A = Result (A × List ℕ) StoredError

-- a number of eight bytes
unfoldable pub number_at : List ℕ → Read ℕ
number_at bytes =
    if nat_lt (length bytes) 8 then Err Truncated else Ok (from_le_bytes w64 (take 8 bytes), drop 8 bytes)

unfoldable pub coordinate_at : List ℕ → Read ℤ
coordinate_at bytes = do
  n ← number_at bytes
  Ok (cast_signed w64 n.0, n.1)

unfoldable pub point_at : List ℕ → Read Place
point_at bytes = do
  x ← coordinate_at bytes
  y ← coordinate_at x.1
  Ok (x.0 ∷ y.0 ∷ [], y.1)

unfoldable pub leaf_at : List ℕ → Read Tree
leaf_at bytes = do
  p ← point_at bytes
  Ok (leaf p.0, p.1)

-- so many parts, one after another
unfoldable pub each_at : (List ℕ → Read Tree) → ℕ → List ℕ → Read (List Tree)
each_at child zero bytes = Ok ([], bytes)
each_at child (suc n) bytes = do
  first ← child bytes
  others ← each_at child n first.1
  Ok (first.0 ∷ others.0, others.1)

-- whether a box has these corners
abbrev pub has_corners : Place → Place → Box → Bool
has_corners lower upper b = pointwise int_eq (map (λ x. x.0) b) lower && pointwise int_eq (map (λ x. x.1) b) upper

-- the children of a parent whose box was read, and the test of the box
unfoldable pub children_at : (List ℕ → Read Tree) → ℕ → List ℕ → Read Tree
children_at child count bytes = do
  lower ← point_at bytes
  upper ← point_at lower.1
  below ← each_at child count upper.1
  if has_corners lower.0 upper.0 (merge_of below.0) then Ok (parent (merge_of below.0) (row_of below.0), below.1) else Err BadBox

-- a parent, by what reads a child
unfoldable pub parent_at : (List ℕ → Read Tree) → List ℕ → Read Tree
parent_at child bytes = do
  count ← number_at bytes
  if count.0 == 0 then Err BadLevel else (if nat_lt (length count.1) (32 + 16 * count.0) then Err Truncated else children_at child count.0 count.1)

-- a node with its leaves this many levels below
unfoldable pub node_at : ℕ → List ℕ → Read Tree
node_at zero bytes = leaf_at bytes
node_at (suc h) bytes = parent_at (node_at h) bytes

-- nothing is left
abbrev pub ended : Tree → List ℕ → Result Tree StoredError
ended t [] = Ok t
ended t (b ∷ rest) = Err Trailing

-- the root of a tree of so many points with so many levels of parents
unfoldable pub root_at : ℕ → ℕ → List ℕ → Result Tree StoredError
root_at zero count bytes = if count == 0 then ended (parent boxes.empty end) bytes else Err BadCount
root_at (suc h) count bytes = do
  root ← node_at (suc h) bytes
  if length (points_of root.0) == count then ended root.0 root.1 else Err BadCount

-- what follows the number of points
unfoldable pub levels_at : ℕ → List ℕ → Result Tree StoredError
levels_at count [] = Err Truncated
levels_at count (h ∷ rest) = if nat_lt 64 h then Err BadLevel else root_at h count rest

-- the tree of the bytes, or the first fault from left to right
unfoldable pub tree_at : List ℕ → Result Tree StoredError
tree_at bytes =
    if nat_lt (length bytes) 4 then Err Truncated
    else (if pointwise nat_eq (take 4 bytes) magic then (number_at (drop 4 bytes) >>= λ count. levels_at count.0 count.1) else Err BadMagic)
