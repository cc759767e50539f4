-- Powers and roots.
use Rattle.std.proofs.Common.{◌≡◌, ℕ, ◌+◌, ◌-◌, ◌*◌, ◌/◌, ◌^◌, ◌<◌, ◌≤◌, arith, ap}
use Prim.Native.Nat.{zero, suc}
use Rattle.std.specs.Int.{div_ceil}
use Rattle.std.proofs.Math.Nat.{one-le-pow, pow-le-pow_right, le-div_iff_mul-le, pow-suc, lt_of_not-le, mul-le-mul, lt_of_mul-lt-mul_left}
use Rattle.std.proofs.lemmas.Grind.{pow_more, div_ceil_times}
use Rattle.rstar_base.specs.Clusters.{IsLeastPower}

-- one factor more fits
pub one_more : (base limit power : ℕ) → 0 < base → power ≤ limit / base → power * base ≤ limit
one_more base limit power some h = (le-div_iff_mul-le some).0 h

-- one factor more does not
pub one_too_many : (base limit power : ℕ) → 0 < base → limit / base < power → limit < power * base
one_too_many base limit power some h = lt_of_not-le (λ k. absurd (omega (arith, (le-div_iff_mul-le some).1 k)))

-- a power past the limit stays past it
pub too_large : (base e i limit power : ℕ) → 0 < base → power ≡ base ^ i → i < e → limit / base < power → limit < base ^ e
too_large base e i limit power some is below h =
    let next : base ^ (i + 1) ≤ base ^ e = pow-le-pow_right some (omega arith) in
    omega (arith, one_too_many base limit power some h, next, pow_more base i, ap (λ x. x * base) is)

pub positive : (base e : ℕ) → 0 < base → 0 < base ^ e
positive base e some = omega (arith, one-le-pow e base some)

-- the last power below n
pub least_power : (base n d power : ℕ) → 2 ≤ base → base < n → power ≡ base ^ d → power < n → (n - 1) / base < power → IsLeastPower base n (suc d)
least_power base n d power large more is below h = record {
  reaches = omega (arith, one_too_many base (n - 1) power (omega arith) h, pow-suc base d, ap (λ x. x * base) is);
  least = λ e p. let up : base ^ e ≤ base ^ d = pow-le-pow_right (omega arith) (omega arith) in omega (arith, up);
}

pub product_positive : (a b : ℕ) → 0 < a → 0 < b → 0 < a * b
product_positive a b p q = grind arith

pub zero_power : (e : ℕ) → 0 < e → 0 ^ e ≡ 0
zero_power zero h = absurd (omega arith)
zero_power (suc e) h = omega (arith, pow-suc 0 e)

-- a number is below the power of the next
pub below_power : (m e : ℕ) → 0 < e → m < (m + 1) ^ e
below_power m (suc e) h =
    let same : m + 1 ≤ m + 1 = omega arith in
    let up : 1 * (m + 1) ≤ (m + 1) ^ e * (m + 1) = mul-le-mul (one-le-pow e (m + 1) (omega arith)) same in
    omega (arith, up, pow-suc (m + 1) e)
below_power m zero h = absurd (omega arith)

-- so many parts of b are enough for n
pub ceil_small : (n b most : ℕ) → 0 < b → n ≤ b * most → div_ceil n b ≤ most
ceil_small n b most some h =
    let spread = (div_ceil_times n b some).1 in
    let fits : div_ceil n b < most + 1 = lt_of_mul-lt-mul_left b (omega (arith, spread, h)) in
    omega arith
