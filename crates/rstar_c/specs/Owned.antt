-- What a handle owns: nothing, or the one value at its address.
use Rattle.std.specs.Prelude.{ℕ, Bool, true, false, List, [], ◌∷◌}
use mir.Syntax.{Ty}
use base.Fml.{Fml, ftrue}
use denote.RattleType.{RattleType}
use denote.RawPtr.{Ptr}
use Rattle.std.specs.Box.Ownership.{box_owns}

-- nothing of no value, and else the first, as a box owns it
abbrev pub owned_at : (Ty → Ptr → Fml) → (R : RattleType) → Ptr → List R.Denot → Fml
owned_at holds R p [] = ftrue
owned_at holds R p (x ∷ xs) = box_owns holds R p x

-- how many values a handle holds
abbrev pub count_of_made : Bool → ℕ
count_of_made true = 1
count_of_made false = 0

-- the one list that a handle holds, and no element where it holds none
abbrev pub first_of : {X : Type 0} → List (List X) → List X
first_of [] = []
first_of (xs ∷ more) = xs
