-- How replies and ends are spelled.
use Rattle.std.specs.Prelude.{◌≡◌, ℕ, ℤ, List, [], ◌∷◌, ◌++◌, codes, decimal, map, unsigned_abs, Some, None, Result, Ok, Err}
use Rattle.std.specs.List.{join_by}
use Rattle.std.specs.List.Sorted.{IsPermutation, IsNonDecreasing}
use Rattle.rstar.specs.declared.replay.Reply.TheVariants as reply
use Rattle.rstar_run.specs.Items.{Item, Reply}
use Rattle.rstar_run.specs.declared.stops.Stop.{Stop}
use Rattle.rstar_run.specs.declared.stops.Stop.TheVariants.{Line, Memory, Input, Output}

-- the texts of some with single spaces, and `-` where there is none
abbrev pub list_text : {A : Type 0} → (A → List ℕ) → List A → List ℕ
list_text text [] = codes "-"
list_text text (x ∷ xs) = join_by text (codes " ") (x ∷ xs)

-- the ID of an item, and that of a neighbour with its squared distance
abbrev pub id_text : Item → List ℕ
id_text item = decimal item.1

abbrev pub neighbour_text : Item × ℤ → List ℕ
neighbour_text n = id_text n.0 ++ (codes ":" ++ decimal (unsigned_abs n.1))

-- the IDs of just these items, ascending
pub record AreIds (items : List Item) (ids : List ℕ) : Type 0 where
  pub just_those : IsPermutation (map (λ item. item.1) items) ids
  pub ascending : IsNonDecreasing ids

-- the line of a reply
abbrev pub SpellsReply : Reply → List ℕ → Type 0
SpellsReply reply.Done text = text ≡ codes "ok\n"
SpellsReply (reply.Taken None) text = text ≡ codes "-\n"
SpellsReply (reply.Taken (Some item)) text = text ≡ id_text item ++ codes "\n"
SpellsReply (reply.Elements items) text =
    (ids : List ℕ) × AreIds items.items ids × (text ≡ list_text decimal ids ++ codes "\n")
SpellsReply (reply.Neighbours found) text = text ≡ list_text neighbour_text found.items ++ codes "\n"
SpellsReply _ _ = ⊥

-- no text spells the reply: it says that memory was refused or that the tree is full, or no line asks for it
abbrev pub HasNoText : Reply → Type 0
HasNoText reply = (text : List ℕ) → SpellsReply reply text → ⊥

-- what is said where a run stops; nothing after a failed write
abbrev pub stop_text : Stop → List ℕ
stop_text (Line n) = codes "error: line " ++ decimal n ++ codes "\n"
stop_text Memory = codes "error: memory\n"
stop_text Input = codes "error: input\n"
stop_text Output = []

-- what is said of the end of a run
abbrev pub end_text : Result (Unit {0}) Stop → List ℕ
end_text (Ok _) = []
end_text (Err stop) = stop_text stop
