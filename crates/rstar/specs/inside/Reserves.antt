-- The memory of insertions: what is ready before a step, and what the step spends.
use Rattle.std.specs.Prelude.{◌≡◌, ℕ, ◌+◌, ◌≤◌, List, vec_len, vec_capacity}
use Rattle.std.specs.List.{AllByRecursion}
use Rattle.std.specs.List.Sorted.{IsPermutation}
use Rattle.rstar_base.specs.Envelopes.{Boxes}
use Rattle.rstar_base.specs.Elements.{Objects}
use Rattle.rstar.specs.declared.node.RTreeNode.{RTreeNode}
use Rattle.rstar.specs.declared.node.ParentNode.{ParentNode}
use Rattle.rstar.specs.declared.algorithm.rstar.preparation.Reserve.{Reserve}
use Rattle.rstar.specs.Nodes.{all_elements}
use Rattle.rstar.specs.Shapes.{IsSizedTree}
use Rattle.rstar.specs.inside.ParentBounds.{IsSpare, IsKeptTree, roomy_of}

-- so many spare lists at least, and room for one child too many, in a tree whose parents have `max` children or more
pub record IsReady {A : Type 0} (max least : ℕ) (r : Reserve A) : Type 0 where
  pub wide : max ≤ r.widest
  pub spares : AllByRecursion (IsSpare r.widest) r.spares.items
  pub enough : least ≤ vec_len r.spares
  pub overfull : IsSpare (r.widest + 1) r.overfull

-- a step spends spare lists on nodes. `before` and `after` count their parents whose lists can hold so many children.
pub record Spends {A : Type 0} (before after : ℕ → ℕ) (old new : Reserve A) : Type 0 where
  pub widest : new.widest ≡ old.widest
  pub spares : AllByRecursion (IsSpare new.widest) new.spares.items
  pub fewer : vec_len new.spares ≤ vec_len old.spares
  -- a list that is handed back has its place, and nothing is left of an overflow
  pub places : vec_capacity new.spares ≡ vec_capacity old.spares
  pub overfull : IsSpare (new.widest + 1) new.overfull
  -- no list with room for all that a parent may have is lost, and no more parents are new than spare lists are gone
  pub room : vec_len old.spares + before old.widest ≤ vec_len new.spares + after old.widest
  pub made : vec_len new.spares + after 0 ≤ vec_len old.spares + before 0

-- a root with its leaves `old` levels below its children became one of these elements, with `new` levels
pub record BecomesRoot {T E : Type 0} (v : Boxes E) (o : Objects T E) (min max old : ℕ) (root : ParentNode T E)
    (r : Reserve (RTreeNode T E)) (all : List T) (new : ℕ) (root' : ParentNode T E) (r' : Reserve (RTreeNode T E)) : Type 0 where
  pub bag : IsPermutation all (all_elements root'.children.items)
  pub kept : IsKeptTree v o r.widest new root'
  pub sized : IsSizedTree min max old root → IsSizedTree min max new root'
  pub spends : Spends (λ n. roomy_of n old root) (λ n. roomy_of n new root') r r'
