-- The ties between nodes go by an order of their elements.
use Rattle.std.specs.Prelude.{◌≡◌, true, false, List, [], ◌∷◌, refl}
use Rattle.std.specs.List.{AllByRecursion}
use Rattle.std.specs.Ordering.{is_lt}
use Rattle.std.specs.declared.cmp.Ordering.{Ordering}
use Rattle.rstar.specs.declared.node.RTreeNode.{Leaf, Parent'}
use Rattle.rstar.specs.Nodes.{elements, leaf_element, fold_tree}
use Rattle.rstar.specs.inside.Searches.{any_first, parents_first, TiesBy}

-- where all are equal
pub any_ties : {T E : Type 0} → TiesBy {T = T} {E = E} any_first any_first
any_ties {T = T} n t e = all (elements n)
  where
    all : (us : List T) → AllByRecursion (λ (u : T). is_lt (any_first u t) ≡ false) us
    all [] = tt
    all (u ∷ us) = (refl, all us)

-- where elements come in their own order
pub parents_ties : {T E : Type 0} (order : T → T → Ordering) → TiesBy {T = T} {E = E} (parents_first order) order
unfolding elements leaf_element fold_tree
parents_ties order (Leaf u) t e = (e, tt)
parents_ties order (Parent' shape children envelope) t e = let no : true ≡ false = e in cc
