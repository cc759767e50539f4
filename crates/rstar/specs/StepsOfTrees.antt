-- What commands do to a tree.
-- T is the element's type, D the type of the node sizes, E its envelope's, P its point's, S its scalar's, X what a
-- scalar's text is refused with.
use Rattle.std.specs.Prelude.{◌≡◌, ◌<◌, ◌⊎◌, ◌↔◌, ℕ, List, None}
use Rattle.rstar_base.specs.Envelopes.{Boxes}
use Rattle.rstar_base.specs.Elements.{Objects}
use Rattle.rstar_base.specs.Counts.{usize_max}
use Rattle.rstar.specs.declared.replay.Command.{Command}
use Rattle.rstar.specs.declared.replay.Reply.{Reply}
use Rattle.rstar.specs.declared.replay.Reply.TheVariants.{Taken, TooMany}
use Rattle.rstar.specs.declared.rtree.RTree.{RTree}
use Rattle.rstar.specs.Heights.{height_of, spare_lists}
use Rattle.rstar.specs.Steps.{RunBy, IsInsertion, IsQuestion, IsRefusal}
use Rattle.rstar.specs.Trees.{root_of, size_of, elements_in, IsUnchanged, IsWholeTree}

-- `step` is what a command may be answered over the list of elements, in the first reading or in the second
module _ {T D E P S X : Type 0} (v : Boxes E) (o : Objects T E) (max reinserted : ℕ)
    (step : List T → Command T E P S X → Reply T E P S X → List T → Type 0) where
  -- a command is answered as over the list of elements. A question and a removal of none leave the very tree, a refused
  -- command what it shows.
  pub record StepOfTree (old : RTree T D E P S X) (c : Command T E P S X) (r : Reply T E P S X) (new : RTree T D E P S X)
      : Type 0 where
    pub answered : step (elements_in old) c r (elements_in new)
    pub whole : IsWholeTree v o max new
    pub asked : IsQuestion c → new ≡ old
    pub missed : r ≡ Taken None → new ≡ old
    pub refused : IsRefusal r → IsUnchanged old new
    -- an insertion, where the size or the spare lists that are wanted cannot be counted, and nothing else
    pub too_many : (r ≡ TooMany)
        ↔ (IsInsertion c × ((size_of old ≡ usize_max) ⊎ (usize_max < spare_lists reinserted (height_of (root_of old)))))

  -- a run by such steps: commands and their replies, from tree to tree
  abbrev pub RunOfTree
      : RTree T D E P S X → List (Command T E P S X) → List (Reply T E P S X) → RTree T D E P S X → Type 0
  RunOfTree = RunBy (λ old new. new ≡ old) StepOfTree
