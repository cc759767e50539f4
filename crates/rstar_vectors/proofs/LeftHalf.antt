-- What lies left of a limit is found by the lower bounds of boxes.
use Rattle.std.proofs.Common.{◌≡◌, ℤ, pos, true, List, [], ◌∷◌, length, slice_index_or, int_lt, arith}
use Rattle.std.proofs.lemmas.Int.{ints}
use Rattle.rstar_base.specs.Boxes.{merge_boxes}

-- a box into which a point left of the limit was merged begins left of it
pub left_merged : (a b limit : ℤ) (e : List (ℤ × ℤ)) → length e ≡ 2 → int_lt a limit ≡ true
    → int_lt (slice_index_or (merge_boxes ((a, a) ∷ (b, b) ∷ []) e) 0 (pos 0, pos 0)).0 limit ≡ true
left_merged a b limit [] long left = absurd (omega (arith, long))
left_merged a b limit (x ∷ xs) long left = grind (arith, ints)
