use Rattle.std.proofs.Common.{◌≡◌, ℤ, true, pos, ◌+ℤ◌, FitsSigned, to_z-of_z}
use Rattle.std.specs.Prelude.{int_div, int_rem, int_lt}
use Rattle.std.specs.Int.{w128}
use Rattle.std.proofs.lemmas.Int.{quot_fits}
use mathlib.Core.Bool.{beq}
use Rattle.rstar_base.proofs.Halves.{halves, halves_sum, rest_fits, rests_fit, parts_fit, halves_fit}
use Rattle.rstar_base.proofs.point.integers.I128RTreeNum.half_sum.Goals as goal

pub returns-then-self-other : goal.returns-then-self-other
returns-then-self-other c =
    let a : ℤ = c.args.self in
    let b : ℤ = c.args.other in
    let fa : FitsSigned w128 a = c.ranges.self in
    let fb : FitsSigned w128 b = c.ranges.other in
    let one_sign : beq (int_lt a (pos 0)) (int_lt b (pos 0)) ≡ true = simp to_z-of_z at c.if-self-other.true in
    let ha : FitsSigned w128 (int_div a (pos 2)) = quot_fits w128 a (pos 2) fa (record { lt = tt }) in
    let hb : FitsSigned w128 (int_div b (pos 2)) = quot_fits w128 b (pos 2) fb (record { lt = tt }) in
    let ra : FitsSigned w128 (int_rem a (pos 2)) = rest_fits a in
    let rb : FitsSigned w128 (int_rem b (pos 2)) = rest_fits b in
    let rs : FitsSigned w128 (int_rem a (pos 2) +ℤ int_rem b (pos 2)) = rests_fit a b in
    let hs : FitsSigned w128 (int_div (int_rem a (pos 2) +ℤ int_rem b (pos 2)) (pos 2)) = quot_fits w128 (int_rem a (pos 2) +ℤ int_rem b (pos 2)) (pos 2) rs (record { lt = tt }) in
    let ss : FitsSigned w128 (int_div a (pos 2) +ℤ int_div b (pos 2)) = parts_fit a b fa fb one_sign in
    let all : FitsSigned w128 (halves a b) = halves_fit a b fa fb one_sign in
    simp to_z-of_z (halves_sum a b one_sign)

pub overflow_add-result-then-self-other-2 : goal.overflow_add-result-then-self-other-2
overflow_add-result-then-self-other-2 c =
    let a : ℤ = c.args.self in
    let b : ℤ = c.args.other in
    let fa : FitsSigned w128 a = c.ranges.self in
    let fb : FitsSigned w128 b = c.ranges.other in
    let one_sign : beq (int_lt a (pos 0)) (int_lt b (pos 0)) ≡ true = simp to_z-of_z at c.if-self-other.true in
    let ha : FitsSigned w128 (int_div a (pos 2)) = quot_fits w128 a (pos 2) fa (record { lt = tt }) in
    let hb : FitsSigned w128 (int_div b (pos 2)) = quot_fits w128 b (pos 2) fb (record { lt = tt }) in
    let ra : FitsSigned w128 (int_rem a (pos 2)) = rest_fits a in
    let rb : FitsSigned w128 (int_rem b (pos 2)) = rest_fits b in
    let rs : FitsSigned w128 (int_rem a (pos 2) +ℤ int_rem b (pos 2)) = rests_fit a b in
    let hs : FitsSigned w128 (int_div (int_rem a (pos 2) +ℤ int_rem b (pos 2)) (pos 2)) = quot_fits w128 (int_rem a (pos 2) +ℤ int_rem b (pos 2)) (pos 2) rs (record { lt = tt }) in
    let ss : FitsSigned w128 (int_div a (pos 2) +ℤ int_div b (pos 2)) = parts_fit a b fa fb one_sign in
    simp to_z-of_z (halves_fit a b fa fb one_sign)
