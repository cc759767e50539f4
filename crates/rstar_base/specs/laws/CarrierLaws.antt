-- What holds an element, and answers as it does, keeps the laws of elements.
use Rattle.std.specs.Prelude.{ℤ, List}
use Rattle.rstar_base.specs.Envelopes.{Boxes}
use Rattle.rstar_base.specs.Elements.{Objects, Distances, DistanceLaws, carried_objects, carried_distances}

pub carried_laws : {T E U : Type 0} {IsPoint : List ℤ → Type 0} (v : Boxes E) (o : Objects T E) (d : Distances T)
    (inner : U → T)
    → DistanceLaws IsPoint v o d → DistanceLaws IsPoint v (carried_objects o inner) (carried_distances d inner)
carried_laws v o d inner l = record {
  near = λ u. l.near (inner u);
  within = λ u. l.within (inner u);
  contained = λ u. l.contained (inner u);
}
