-- The distance of boxes keeps the laws.
use Rattle.std.specs.Prelude.{◌≡◌, ◌&&◌, ◌*◌, ◌≤◌, ◌<ℤ◌, ℕ, ℤ, true, min, zero, suc, List, [], ◌∷◌, length, pos, int_le, unsigned_abs}
use Rattle.std.proofs.Common.{refl, ap, arith}
use Rattle.std.proofs.lemmas.Bool.{eqb-false}
use Rattle.std.proofs.lemmas.Int.{ints}
use Rattle.rstar_base.specs.Boxes.{merge_boxes, contains_box, boxes_intersect}
use Rattle.rstar_base.specs.BoxData.{box_data}
use Rattle.rstar_base.specs.Counts.{counted_boxes}
use Rattle.rstar_base.specs.Envelopes.{Boxes}
use Rattle.rstar_base.specs.Gaps.{gap, gap_sum, boxes_apart, GapLaws}
use Rattle.rstar_base.specs.laws.PointLemmas.{and_both}
use Rattle.rstar_base.specs.laws.BoxLaws.{merge-contains, long_same}
use Rattle.rstar_base.specs.laws.DistanceLaws.{square_up}

gap-comm : (x y : ℤ × ℤ) → gap x y ≡ gap y x
gap-comm x y = omega arith

gap_sum-comm : (a b : List (ℤ × ℤ)) → gap_sum a b ≡ gap_sum b a
gap_sum-comm (x ∷ xs) (y ∷ ys) = cc (gap-comm x y, gap_sum-comm xs ys)
gap_sum-comm [] (y ∷ ys) = refl
gap_sum-comm a b = refl

square-zero : (g : ℕ) → g * g ≡ 0 → g ≡ 0
square-zero zero h = refl
square-zero (suc g) h = absurd (grind arith)

gap-meets : (x y : ℤ × ℤ) → gap x y ≡ 0 → (int_le x.0 y.1 && int_le y.0 x.1) ≡ true
gap-meets x y h = grind (arith, ints)

meets-gap : (x y : ℤ × ℤ) → (int_le x.0 y.1 && int_le y.0 x.1) ≡ true → gap x y * gap x y ≡ 0
meets-gap x y h = let z : gap x y ≡ 0 = grind (arith, ints) in rw z refl

gap_sum-meets : (a b : List (ℤ × ℤ)) → length a ≡ length b → gap_sum a b ≡ 0 → boxes_intersect a b ≡ true
gap_sum-meets (x ∷ xs) (y ∷ ys) l h =
    and_both _ _ (gap-meets x y (square-zero _ (omega (arith, h))))
    (gap_sum-meets xs ys (omega arith) (omega (arith, h)))
gap_sum-meets a b l h = grind arith

meets-gap_sum : (a b : List (ℤ × ℤ)) → boxes_intersect a b ≡ true → gap_sum a b ≡ 0
meets-gap_sum (x ∷ xs) (y ∷ ys) h = grind (arith, meets-gap x y, meets-gap_sum xs ys)
meets-gap_sum a b h = refl

gap-down : (x y z : ℤ × ℤ) → (int_le x.0 y.0 && int_le y.1 x.1) ≡ true → gap x z * gap x z ≤ gap y z * gap y z
gap-down x y z h = square_up _ _ (grind (arith, ints))

gap_sum-down : (a b c : List (ℤ × ℤ)) → contains_box a b ≡ true → gap_sum a c ≤ gap_sum b c
gap_sum-down (x ∷ xs) (y ∷ ys) (z ∷ zs) h = grind (arith, gap-down x y z, gap_sum-down xs ys zs)
gap_sum-down a b c h = grind arith

held-zero : (high : ℤ) (n : ℕ) → pos 0 <ℤ high → min n (unsigned_abs high) ≡ 0 → n ≡ 0
held-zero high n h k = grind (arith, ints)

pub gap_laws : (low high : ℤ) (n : ℕ) → pos 0 <ℤ high → GapLaws (box_data low high n) (boxes_apart high)
gap_laws low high n hh = record {
  symmetric = λ a b _ _. ap (λ s. min s (unsigned_abs high)) (gap_sum-comm a b);
  touching = λ a b h k. (
    λ z. gap_sum-meets a b (long_same low high n _ _ h k) (held-zero high (gap_sum a b) hh z),
    λ m. let z = meets-gap_sum a b m in omega (arith, z),
  );
  merge_nearer = λ a b c h k _ _.
      let s = gap_sum-down (merge_boxes a b) a c (merge-contains a b (long_same low high n _ _ h k)) in
      omega (arith, s);
}

-- ---- of envelopes with a count

pub counted_gap_laws : {E : Type 0} (v : Boxes E) (apart : E → E → ℕ) → GapLaws v apart
    → GapLaws (counted_boxes v) (λ a b. apart a.0 b.0)
counted_gap_laws v apart l = record {
  symmetric = λ a b h k. l.symmetric a.0 b.0 h.inside k.inside;
  touching = λ a b h k. l.touching a.0 b.0 h.inside k.inside;
  merge_nearer = λ a b c h k m e.
      l.merge_nearer a.0 b.0 c.0 h.inside k.inside m.inside (h.some (eqb-false a.1 0 e));
}
