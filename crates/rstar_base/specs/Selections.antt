-- Selection functions.
use Rattle.std.specs.Prelude.{◌≡◌, Bool, true, false}
use Rattle.rstar_base.specs.Envelopes.{Boxes}
use Rattle.rstar_base.specs.Elements.{Objects}

module _ {T E : Type 0} (v : Boxes E) (o : Objects T E) where
  -- a lawful selection function: it accepts each envelope that a selected element's envelope was merged into, where that
  -- is not empty
  abbrev pub IsLawful : (E → Bool) → (T → Bool) → Type 0
  IsLawful accepts selects =
      (t : T) (e : E) → o.IsValue t → v.IsValue e → selects t ≡ true → v.is_empty (o.box_of t) ≡ false
      → accepts (v.merge (o.box_of t) e) ≡ true

  -- a selection function that visits parents by the test `opens`, selects elements by the test `asks`, and is lawful
  pub record SelectsBy (opening : E → Bool) (selecting : T → Bool) (opens : E → Bool) (asks : T → Bool)
      : Type 0 where
    pub accepts : opening ≡ opens
    pub selects : selecting ≡ asks
    pub lawful : IsLawful opening selecting
