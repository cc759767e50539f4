-- What callers say.
use Rattle.std.specs.Prelude.{◌≡◌, ℕ, min, Bool, true, List, ◌∷◌, ◌++◌, length, Option, None}
use Rattle.std.specs.Iterator.{YieldsThen}
use Rattle.rstar_base.specs.Counts.{usize_max}
use Rattle.rstar.specs.declared.rtree.RTree.{RTree}
use Rattle.rstar.specs.Trees.{elements_in, HasSameOutline}

-- an element that passes a test carries another payload, in its place; the tree shows the same in all else
pub record IsRenumbered {R D Q E P S X : Type 0} (test : R × D → Bool) (d : D) (old new : RTree (R × D) Q E P S X)
    : Type 0 where
  pub before : List (R × D)
  pub one : R × D
  pub after : List (R × D)
  pub passes : test one ≡ true
  pub was : elements_in old ≡ before ++ one ∷ after
  pub is : elements_in new ≡ before ++ (one.0, d) ∷ after
  pub outline : HasSameOutline old new

-- an iterator gives so many items up to its end, as far as a number goes
pub record IsCountOf {I A : Type 0} (gives : I → Option A → I → Type 0) (it : I) (count : ℕ) : Type 0 where
  pub items : List A
  pub end : I
  pub given : YieldsThen gives it items None end
  pub counted : count ≡ min (length items) usize_max
