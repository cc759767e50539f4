-- The earliest of some elements, by an order of their own.
-- T is the element's type, E its envelope's.
use Rattle.std.specs.Prelude.{◌≡◌, ◌≢◌, ℕ, ◌<◌, Bool, List, [], ◌∷◌, length, slice_index_or, if◌then◌else◌}
use Rattle.std.specs.Prelude.{Option, Some, None, option_map}
use Rattle.std.specs.Borrow.{Bor}
use Rattle.std.specs.Ordering.{is_lt}
use Rattle.std.specs.declared.cmp.Ordering.{Ordering}
use Rattle.rstar.specs.declared.node.RTreeNode.{RTreeNode}
use Rattle.rstar.specs.Nodes.{given, all_given}

-- the earlier of two that may be there, the left one where neither comes before the other
abbrev pub earlier : {T : Type 0} → (T → T → Ordering) → Option T → Option T → Option T
earlier compare None u = u
earlier compare (Some t) None = Some t
earlier compare (Some t) (Some u) = if is_lt (compare u t) then Some u else Some t

-- the earliest of a list, the leftmost of those before which none comes
abbrev pub earliest : {T : Type 0} → (T → T → Ordering) → List T → Option T
earliest compare [] = None
earliest compare (t ∷ ts) = earlier compare (Some t) (earliest compare ts)

-- what may be lent
abbrev pub lent : {T : Type 0} → Option (Bor T) → Option T
lent t = option_map (λ x. x.now) t

-- of two that may be lent the earlier one, the first with its place
abbrev pub earlier_at : {T : Type 0} → (T → T → Ordering) → Option (ℕ × Bor T) → ℕ → Option (Bor T) → Option (ℕ × Bor T)
earlier_at compare found i None = found
earlier_at compare None i (Some t) = Some (i, t)
earlier_at compare (Some found) i (Some t) = if is_lt (compare t.now found.1.now) then Some (i, t) else Some found

-- ---- nodes, from which a walk gives elements

module _ {T E : Type 0} (accepts : E → Bool) (selects : T → Bool) where
  -- something is given below the node at this place
  pub record IsGivenAt (ns : List (RTreeNode T E)) (i : ℕ) : Type 0 where
    pub within : i < length ns
    pub some : (d : RTreeNode T E) → given accepts selects (slice_index_or ns i d) ≢ []

  module _ (compare : T → T → Ordering) where
    -- t is the earliest of all that is given, and lies below the node at this place
    pub record IsEarliestAt (ns : List (RTreeNode T E)) (i : ℕ) (t : T) : Type 0 where
      pub within : i < length ns
      pub here : (d : RTreeNode T E) → earliest compare (given accepts selects (slice_index_or ns i d)) ≡ Some t
      pub all : earliest compare (all_given accepts selects ns) ≡ Some t

    -- the place and the earliest of what is given, and none where nothing is
    abbrev pub IsEarliestOf : List (RTreeNode T E) → Option (ℕ × Bor T) → Type 0
    IsEarliestOf ns None = all_given accepts selects ns ≡ []
    IsEarliestOf ns (Some found) = IsEarliestAt ns found.0 found.1.now
