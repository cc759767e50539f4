-- What a question does at a node.
use Rattle.std.specs.Prelude.{◌≡◌, ◌<◌, ℕ, List, [], ◌∷◌, map}
use Rattle.std.specs.List.{flat_map}
use Rattle.rstar.specs.Nodes.{total}
use Rattle.rstar_c.specs.declared.walk.Seen.{Seen}
use Rattle.rstar_c.specs.declared.walk.Seen.TheVariants.{Passed, Selected, Opened}

-- the numbers that it selects from the node on, by what it does; it comes to fewer nodes among the children
abbrev pub IsSeen : {N : Type 0} → (N → List ℕ) → (N → ℕ) → N → Seen N → Type 0
IsSeen numbers size node Passed = numbers node ≡ []
IsSeen numbers size node (Selected number) = numbers node ≡ number ∷ []
IsSeen numbers size node (Opened children) =
    (numbers node ≡ flat_map numbers children.now) × (total (map size children.now) < size node)
