-- Elements with a cached envelope.
use Rattle.std.specs.Prelude.{◌&&◌, ℕ, ℤ, List, min, max, if◌then◌else◌}
use Rattle.rstar_base.specs.Envelopes.{Boxes}
use Rattle.rstar_base.specs.Elements.{Objects, Distances}

-- a distance, clamped between MINDIST and MINMAXDIST of the cached envelope
abbrev pub kept_distance : {E : Type 0} → Boxes E → E → List ℤ → ℕ → ℕ
kept_distance v e p d = if v.is_empty e then d else max (v.distance_2 e p) (min (v.min_max_dist_2 e p) d)

-- the envelope of the element is the cached one
abbrev pub kept_objects : {E U : Type 0} → Boxes E → (U → E) → Objects U E
kept_objects v kept = record { IsValue = λ u. v.IsValue (kept u); box_of = λ u. kept u }

-- the distance is clamped; a point is contained where the element and the cached envelope contain it
abbrev pub kept_distances : {T E U : Type 0} → Boxes E → (U → E) → (U → T) → Distances T → Distances U
kept_distances v kept inner d = record {
  distance_2 = λ u p. kept_distance v (kept u) p (d.distance_2 (inner u) p);
  contains_point = λ u p. v.contains_point (kept u) p && d.contains_point (inner u) p;
}
