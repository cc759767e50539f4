-- The inside of a walk: the slices of nodes that are still to be read, and one step.
use Rattle.std.specs.Prelude.{◌≡◌, ◌≢◌, ℕ, ◌+◌, ◌≤◌, ◌<◌, min, Bool, List, [], ◌∷◌, ◌++◌, map, ⊤}
use Rattle.std.specs.List.{AllByRecursion}
use Rattle.std.specs.Borrow.{Bor}
use Rattle.rstar_base.specs.Counts.{usize_max}
use Rattle.rstar.specs.declared.node.RTreeNode.{RTreeNode}
use Rattle.rstar.specs.declared.node.ParentNode.{ParentNode}
use Rattle.rstar.specs.declared.iterators.selection.SelectionIterator.{SelectionIterator}
use Rattle.rstar.specs.Nodes.{total, fold_tree, all_given, all_reach, reach_of, children_of, IsTree}

-- ---- slices, the last of them read first

-- what is given from them
abbrev pub given_from_slices : {T E : Type 0}
    → (E → Bool) → (T → Bool) → List (Bor (List (RTreeNode T E))) → List T
given_from_slices accepts selects [] = []
given_from_slices accepts selects (nodes ∷ slices) =
    given_from_slices accepts selects slices ++ all_given accepts selects nodes.now

-- how many parents are opened from there
abbrev pub reach_from_slices : {T E : Type 0} → (E → Bool) → List (Bor (List (RTreeNode T E))) → ℕ
reach_from_slices accepts [] = 0
reach_from_slices accepts (nodes ∷ slices) = reach_from_slices accepts slices + all_reach accepts nodes.now

-- all leaves lie this many levels below the node, and no parent is without children
abbrev pub IsLevel : {T E : Type 0} → ℕ → RTreeNode T E → Type 0
IsLevel h n = IsTree (λ p. children_of p ≢ []) (λ t. ⊤) h n

-- the nodes of each slice lie on one level, below those of the slice before it and below level h: so there are at most
-- h slices
abbrev pub AreSlices : {T E : Type 0} → ℕ → List (Bor (List (RTreeNode T E))) → Type 0
AreSlices h [] = ⊤
AreSlices h (nodes ∷ slices) =
    (level : ℕ) × (level < h) × AllByRecursion (IsLevel level) nodes.now × AreSlices level slices

-- slices with room for all above the last; the parents opened and those still to be opened are all that are reached
-- from the root
pub record IsUnderWay {T E : Type 0} (accepts : E → Bool) (root : ParentNode T E)
    (slices : List (Bor (List (RTreeNode T E)))) (room opened : ℕ) : Type 0 where
  pub height : ℕ
  pub fits : height ≤ room + 1
  pub levels : AreSlices height slices
  pub count : ℕ
  pub counted : opened ≡ min count usize_max
  pub all : count + reach_from_slices accepts slices ≡ reach_of accepts root

-- ---- the slices of an iterator

-- those that are left, and behind them the one that is being read
abbrev pub slices_of : {T F E : Type 0}
    → SelectionIterator T F E → List (Bor (List (RTreeNode T E)))
slices_of it = it.path.items ++ it.nodes ∷ []

-- what they give, and that they are on their way
abbrev pub given_by : {T F E : Type 0}
    → (F → E → Bool) → (F → T → Bool) → SelectionIterator T F E → List T
given_by accepts selects it = given_from_slices (accepts it.func) (selects it.func) (slices_of it)

abbrev pub HasItsWay : {T F E : Type 0} → (F → E → Bool) → SelectionIterator T F E → Type 0
HasItsWay accepts it = IsUnderWay (accepts it.func) it.root.now (slices_of it) it.path.capacity it.opened

-- ---- steps

-- how many steps a node takes: a leaf one, a parent two and its children's
unfoldable pub steps : {T E : Type 0} → RTreeNode T E → ℕ
steps n = fold_tree (λ t. 1) (λ e below. 2 + total below) n

-- how many steps slices take, each one more for its end
abbrev pub steps_of : {T E : Type 0} → List (Bor (List (RTreeNode T E))) → ℕ
steps_of [] = 0
steps_of (nodes ∷ slices) = steps_of slices + (1 + total (map steps nodes.now))

-- a step gives these elements, keeps the walk, its root and its question, and goes on
pub record IsStep {T F E : Type 0} (accepts : F → E → Bool) (selects : F → T → Bool)
    (old : SelectionIterator T F E) (found : List T) (new : SelectionIterator T F E) : Type 0 where
  pub walking : HasItsWay accepts new
  pub root : new.root.now ≡ old.root.now
  pub question : new.func ≡ old.func
  pub given : given_by accepts selects old ≡ found ++ given_by accepts selects new
  pub nearer : steps_of (slices_of new) < steps_of (slices_of old)
