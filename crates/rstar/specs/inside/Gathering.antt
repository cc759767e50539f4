-- What taking many elements out at once leaves: of lists of elements, and of a list of nodes.
use Rattle.std.specs.Prelude.{◌≡◌, ◌≢◌, ℕ, ◌+◌, ◌-◌, ◌≤◌, ◌<◌, Bool, true, false, List, ◌∷◌, ◌++◌, length, slice_index_or}
use Rattle.std.specs.List.{AllByRecursion}
use Rattle.std.specs.List.Sorted.{IsPermutation}
use Rattle.rstar_base.specs.Envelopes.{Boxes}
use Rattle.rstar_base.specs.Elements.{Objects}
use Rattle.rstar_base.specs.Selections.{IsLawful}
use Rattle.rstar.specs.declared.node.RTreeNode.{RTreeNode}
use Rattle.rstar.specs.Nodes.{all_elements}
use Rattle.rstar.specs.inside.ParentBounds.{AreKept}
use Rattle.rstar.specs.Lists.{NoneSelected}

-- some selected elements left a list and came to the end of another one, which they fill up to `most` at most
pub record Gathers {T : Type 0} (selects : T → Bool) (most : ℕ) (old held new held' : List T) : Type 0 where
  pub more : List T
  pub held_more : held' ≡ held ++ more
  pub bag : IsPermutation old (more ++ new)
  pub selected : AllByRecursion (λ x. selects x ≡ true) more
  pub few : length held ≤ most → length held' ≤ most

-- the item at i went, and the last one took its place
pub record IsSwappedOut {A : Type 0} (xs : List A) (i : ℕ) (ys : List A) : Type 0 where
  pub bag : (x : A) → x ≡ slice_index_or xs i x → IsPermutation xs (x ∷ ys)
  pub long : length ys + 1 ≡ length xs
  pub last : (d : A) → i + 1 < length xs → slice_index_or ys i d ≡ slice_index_or xs (length xs - 1) d
  pub others : (k : ℕ) (d : A) → k ≢ i → k + 1 < length xs → slice_index_or ys k d ≡ slice_index_or xs k d

-- m and w are the bounds of the nodes' lists, h the levels below
module _ {T E : Type 0} (v : Boxes E) (o : Objects T E) (accepts : E → Bool) (selects : T → Bool) (most : ℕ) where
  -- they left a list of nodes, which has no selected element any more where the other list is not full
  pub record GathersAmong (old : List (RTreeNode T E)) (held : List T) (new : List (RTreeNode T E))
      (held' : List T) : Type 0 where
    pub moved : Gathers selects most (all_elements old) held (all_elements new) held'
    pub shorter : length new ≤ length old
    pub kept : (w h : ℕ) → AreKept v o w h old → AreKept v o w h new
    pub ended : IsLawful v o accepts selects → length held' < most → (w h : ℕ) → AreKept v o w h old
        → NoneSelected selects (all_elements new)
