-- A type that takes little room fits in memory.
use Rattle.std.proofs.Common.{ℕ, ◌+◌, ◌-◌, ◌%◌, ◌^◌, ◌<◌, ◌≤◌, arith}
use Rattle.std.proofs.Math.Nat.{mod-le, mul-le-mul_left}
use prog.Memory.{size, align, up, aligns, alignss, end_of, endss}
use mir.Syntax.{Ty, ty_int, ty_bool, ty_float, ty_ptr, ty_ref, ty_array, ty_unit, ty_struct, ty_enum, ty_named, Tys, tnil, tcons, Tyss, ttnil, ttcons, ty_param, ty_const, ty_array_p}
use Rattle.rstar_base.specs.Sizes.{room, room_of_fields, room_of_variants}

up-le : (k e : ℕ) → up k e ≤ e + k
up-le k e = omega (arith, mod-le (k - e % k) k)

mutual
  pub within : (τ : Ty) → size τ + align τ ≤ room τ
  within (ty_int w) = omega arith
  within ty_bool = omega arith
  within (ty_float f) = omega arith
  within ty_ptr = omega arith
  within (ty_ref κ μ τ) = omega arith
  within (ty_array τ n) = omega (arith, within τ, mul-le-mul_left n (within τ))
  within ty_unit = omega arith
  within (ty_struct ν τs) = omega (arith, aligns-le τs, end-le 0 τs, up-le (aligns τs) (end_of 0 τs))
  within (ty_enum ν τss) = omega (arith, alignss-le τss, endss-le τss, up-le (alignss τss) (endss τss))
  within (ty_param ι) = omega arith
  within (ty_const ι) = omega arith
  within (ty_array_p υ ι) = omega arith
  within (ty_named ν θ) = omega arith

  aligns-le : (τs : Tys) → aligns τs ≤ 1 + room_of_fields τs
  aligns-le tnil = omega arith
  aligns-le (tcons τ τs) = omega (arith, within τ, aligns-le τs)

  alignss-le : (τss : Tyss) → alignss τss ≤ 1 + room_of_variants τss
  alignss-le ttnil = omega arith
  alignss-le (ttcons τs τss) = omega (arith, aligns-le τs, alignss-le τss)

  end-le : (e : ℕ) (τs : Tys) → end_of e τs ≤ e + room_of_fields τs
  end-le e tnil = omega arith
  end-le e (tcons τ τs) = omega (arith, within τ, up-le (align τ) e, end-le (up (align τ) e + size τ) τs)

  endss-le : (τss : Tyss) → endss τss ≤ 1 + room_of_variants τss
  endss-le ttnil = omega arith
  endss-le (ttcons τs τss) = omega (arith, end-le 1 τs, endss-le τss)

-- a type whose room is small fits in memory
pub fits : (τ : Ty) → room τ < 2 ^ 63 → size τ < 2 ^ 63
fits τ h = omega (arith, within τ)
