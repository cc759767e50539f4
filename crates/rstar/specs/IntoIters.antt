-- What an iterator that takes a tree apart shows, and what it keeps.
use Rattle.std.specs.Prelude.{ℕ, zero, suc, ◌+◌, ◌≤◌, List, [], ◌∷◌, ◌++◌, map, reverse, ⊤, vec_capacity}
use Rattle.std.specs.List.{AllByRecursion, flat_map}
use Rattle.rstar.specs.declared.node.RTreeNode.{RTreeNode}
use Rattle.rstar.specs.declared.iterators.into_iter.IntoIter.{IntoIter}
use Rattle.rstar.specs.Nodes.{all_elements}
use Rattle.rstar.specs.inside.Traversals.{IsLevel}

-- the lists of nodes that are not given yet, the one that is being given last
abbrev pub lists_of : {T E : Type 0} → IntoIter T E → List (List (RTreeNode T E))
lists_of it = map (λ v. v.items) it.path.items ++ it.nodes.items ∷ []

-- the elements in them
abbrev pub elements_held : {T E : Type 0} → List (List (RTreeNode T E)) → List T
elements_held lists = flat_map all_elements lists

-- the elements that `into_iter` still yields, in order
unfoldable pub left_to_give : {T E : Type 0} → IntoIter T E → List T
left_to_give it = reverse (elements_held (lists_of it))

-- each list holds nodes one level below those of the list before it, from level h - 1 on
abbrev pub AreLists : {T E : Type 0} → ℕ → List (List (RTreeNode T E)) → Type 0
AreLists h [] = ⊤
AreLists zero (nodes ∷ lists) = ⊥
AreLists (suc h) (nodes ∷ lists) = AllByRecursion (IsLevel h) nodes × AreLists h lists

-- such lists, with room for those above the lowest leaves
pub record HasItsLists {T E : Type 0} (room : ℕ) (lists : List (List (RTreeNode T E))) : Type 0 where
  pub height : ℕ
  pub fits : height ≤ room + 1
  pub levels : AreLists height lists

-- what `into_iter` keeps between calls of `next`
unfoldable pub IsGiving : {T E : Type 0} → IntoIter T E → Type 0
IsGiving it = HasItsLists (vec_capacity it.path) (lists_of it)
