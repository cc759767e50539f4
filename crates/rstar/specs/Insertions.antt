-- What an insertion does to a tree.
-- T is the element's type, D the type of the node sizes, E its envelope's, P its point's, S its scalar's, X what a
-- scalar's text is refused with.
use Rattle.std.specs.Prelude.{◌≡◌, ◌+◌, ◌<◌, ◌⊎◌, ◌↔◌, ◌∷◌, ℕ, Result, OnOk, OnErr, IfErr}
use Rattle.std.specs.Result.{IsErrAnd}
use Rattle.std.specs.List.Sorted.{IsPermutation}
use Rattle.rstar_base.specs.Envelopes.{Boxes}
use Rattle.rstar_base.specs.Elements.{Objects}
use Rattle.rstar.specs.declared.rtree.RTree.{RTree}
use Rattle.rstar.specs.declared.params.InsertError.{InsertError}
use Rattle.rstar.specs.declared.params.InsertCause.TheVariants.{TooMany}
use Rattle.rstar.specs.Heights.{height_of, spare_lists}
use Rattle.rstar.specs.Shapes.{IsSized}
use Rattle.rstar.specs.Trees.{root_of, size_of, elements_in, IsUnchanged, IsWholeTree}
use Rattle.rstar_base.specs.Counts.{usize_max}

module _ {T D E P S X : Type 0} (v : Boxes E) (o : Objects T E) (min max reinserted : ℕ) where
  -- an insertion: one element more, or on `Err` the element back and the tree as it was. `TooMany` comes exactly where
  -- `size` or `spare_lists` exceeds a `usize`. The tree stays whole, and sized where it was.
  pub record Inserts (t : T) (old : RTree T D E P S X) (r : Result (Unit {0}) (InsertError T)) (new : RTree T D E P S X)
      : Type 0 where
    pub added : OnOk r (IsPermutation (t ∷ elements_in old) (elements_in new))
    pub counted : OnOk r (size_of new ≡ size_of old + 1)
    pub handed_back : IfErr r (λ refused. refused.element ≡ t)
    pub unchanged : OnErr r (IsUnchanged old new)
    -- where the size or the spare lists that are wanted cannot be counted, and nowhere else
    pub too_many : IsErrAnd r (λ refused. refused.cause ≡ TooMany)
        ↔ ((size_of old ≡ usize_max) ⊎ (usize_max < spare_lists reinserted (height_of (root_of old))))
    pub whole : IsWholeTree v o max new
    pub sized : IsSized min max (root_of old) → IsSized min max (root_of new)
