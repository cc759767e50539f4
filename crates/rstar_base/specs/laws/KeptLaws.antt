-- An element beside an envelope that is kept for it keeps the laws of elements.
use Rattle.std.specs.Prelude.{◌≡◌, ◌≤◌, ℕ, ℤ, Bool, false, List, min, max, if◌then◌else◌}
use Rattle.std.proofs.Common.{arith}
use Rattle.rstar_base.specs.laws.PointLemmas.{and_parts}
use Rattle.rstar_base.specs.Envelopes.{Boxes}
use Rattle.rstar_base.specs.Elements.{Objects, Distances, DistanceLaws}
use Rattle.rstar_base.specs.KeptEnvelopes.{kept_distance, kept_objects, kept_distances}

held-near : (t : Bool) (a b d : ℕ) → t ≡ false → a ≤ (if t then d else max a (min b d))
held-near t a b d h = grind arith

held-within : (t : Bool) (a b d : ℕ) → t ≡ false → a ≤ b → (if t then d else max a (min b d)) ≤ b
held-within t a b d h k = grind arith

held-own : (t : Bool) (a b d : ℕ) → (t ≡ false → (a ≤ d) × (d ≤ b)) → (if t then d else max a (min b d)) ≡ d
held-own t a b d h = grind arith

-- where the envelope is the element's own, the distance is the element's
pub kept_distance-own : {T E : Type 0} {IsPoint : List ℤ → Type 0} (v : Boxes E) (o : Objects T E) (d : Distances T)
    → DistanceLaws IsPoint v o d
    → (inner t : T) (e : E) (p : List ℤ) → t ≡ inner → e ≡ o.box_of t → IsPoint p → o.IsValue t
    → kept_distance v e p (d.distance_2 inner p) ≡ d.distance_2 t p
kept_distance-own v o d l inner t e p is same h k =
    rw (← is, same)
    (held-own (v.is_empty (o.box_of t)) (v.distance_2 (o.box_of t) p) (v.min_max_dist_2 (o.box_of t) p)
    (d.distance_2 t p) (λ f. (l.near t p h k f, l.within t p h k f)))

pub kept_laws : {T E U : Type 0} {IsPoint : List ℤ → Type 0} (v : Boxes E) (kept : U → E) (inner : U → T)
    (d : Distances T)
    → ((e : E) (p : List ℤ) → IsPoint p → v.IsValue e → v.is_empty e ≡ false → v.distance_2 e p ≤ v.min_max_dist_2 e p)
    → DistanceLaws IsPoint v (kept_objects v kept) (kept_distances v kept inner d)
kept_laws v kept inner d within = record {
  near = λ u p _ _ e. held-near (v.is_empty (kept u)) (v.distance_2 (kept u) p) (v.min_max_dist_2 (kept u) p)
      (d.distance_2 (inner u) p) e;
  within = λ u p h k e. held-within (v.is_empty (kept u)) (v.distance_2 (kept u) p) (v.min_max_dist_2 (kept u) p)
      (d.distance_2 (inner u) p) e (within (kept u) p h k e);
  contained = λ u p _ _ c. (and_parts (v.contains_point (kept u) p) (d.contains_point (inner u) p) c).0;
}
