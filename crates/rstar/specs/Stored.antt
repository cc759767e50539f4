-- The stored form of a tree of points: which bytes spell which tree.
use Rattle.std.specs.Prelude.{◌≡◌, ◌<◌, ◌≤◌, ◌+◌, ◌^◌, ◌-◌, ℕ, ℤ, zero, suc, List, [], ◌∷◌, ◌++◌, length, map, pos, negsuc}
use Rattle.std.specs.List.{AllByRecursion, flat_map}
use Rattle.std.specs.Int.{w64, to_le_bytes, cast_unsigned}
use Rattle.rstar_base.specs.BoxData.{box_data}
use Rattle.rstar_base.specs.Elements.{Objects}
use Rattle.rstar_base.specs.Envelopes.{Boxes}
use Rattle.rstar_base.specs.Hulls.{hull}
use Rattle.rstar_base.specs.PointElements.{point_object}
use Rattle.rstar_base.specs.Points.{IsPoint}
use Rattle.rstar_base.specs.Segments.{coordinate}
use Rattle.rstar.specs.Shown.{Shown, leaf, parent, end, nodes_in, fold_shown}
use Rattle.rstar.specs.Meets.{shown_box}
use Rattle.rstar.specs.Nodes.{joined, total}

-- ---- trees of points

-- a point: the list of its coordinates
abbrev pub Place : Type 0
Place = List ℤ

-- a box: the list of its intervals
abbrev pub Box : Type 0
Box = List (ℤ × ℤ)

-- a tree of points, as it is shown
abbrev pub Tree : Type 0
Tree = Shown Place Box

-- the least coordinate
abbrev pub low : ℤ
low = negsuc (2 ^ 63 - 1)

-- the greatest coordinate
abbrev pub high : ℤ
high = pos (2 ^ 63 - 1)

-- the envelope type of these boxes
abbrev pub boxes : Boxes Box
boxes = box_data low high 2

-- the element type of these points
abbrev pub places : Objects Place Box
places = point_object low high 2 coordinate

-- the merge of the boxes of some nodes
abbrev pub merge_of : List Tree → Box
merge_of ns = hull boxes (shown_box places.box_of) ns

-- the points of a tree, left to right
abbrev pub points_of : Tree → List Place
points_of t = fold_shown (λ p. p ∷ []) (λ b below. joined below) t

-- a node whose leaves lie h levels below; each parent has children, as many as 8 bytes count, and the merge of their
-- boxes
abbrev pub IsStored : ℕ → Tree → Type 0
IsStored zero (leaf p) = IsPoint low high 2 p
IsStored zero (parent b below) = ⊥
IsStored (suc h) (leaf p) = ⊥
IsStored (suc h) (parent b below) =
    (0 < length (nodes_in below)) × (length (nodes_in below) < 2 ^ 64) × (b ≡ merge_of (nodes_in below))
    × AllByRecursion (IsStored h) (nodes_in below)

-- a tree with h levels of parents; the empty root where h is 0
abbrev pub IsStoredTree : ℕ → Tree → Type 0
IsStoredTree zero t = t ≡ parent boxes.empty end
IsStoredTree (suc h) t = IsStored (suc h) t

-- ---- their spelling

-- a number as eight bytes
unfoldable pub number : ℕ → List ℕ
number n = to_le_bytes w64 n

-- a point as bytes
unfoldable pub point : Place → List ℕ
point p = flat_map (λ z. number (cast_unsigned w64 z)) p

-- a box as bytes
abbrev pub corners : Box → List ℕ
corners b = point (map (λ x. x.0) b) ++ point (map (λ x. x.1) b)

-- a node as bytes
abbrev pub spelling : Tree → List ℕ
spelling t = fold_shown point (λ b below. number (length below) ++ corners b ++ joined below) t

-- the number of bytes of a tree: 16 for a leaf, 40 for a parent
abbrev pub stored_size : Tree → ℕ
stored_size t = fold_shown (λ p. 16) (λ b below. 40 + total below) t

-- the root as bytes, where the height is not 0
abbrev pub root_spelling : ℕ → Tree → List ℕ
root_spelling zero t = []
root_spelling (suc h) t = spelling t

-- the bytes `RST1`
abbrev pub magic : List ℕ
magic = 82 ∷ 83 ∷ 84 ∷ 49 ∷ []

-- the bytes are the stored form of the tree. All numbers are little-endian: `RST1`, the number of points (8 bytes),
-- the height (1 byte, 0 to 64: the levels of parents), and the root where the height is not 0. A parent is the number
-- of its children (8 bytes), its box (32 bytes: the lower, then the upper corner), and its children in order. A leaf
-- is its point (16 bytes: x, then y, in two's complement).
pub record Spells (bytes : List ℕ) (t : Tree) : Type 0 where
  pub height : ℕ
  pub low : height ≤ 64
  pub whole : IsStoredTree height t
  pub counted : length (points_of t) < 2 ^ 64
  pub spelled : bytes ≡ magic ++ number (length (points_of t)) ++ height ∷ root_spelling height t
