-- Half of a sum, from the halves of its parts.
use Rattle.std.proofs.Common.{◌≡◌, ◌≤◌, ◌<◌, ◌^◌, refl, ap, sym, subst, ◌∙◌, ◌+ℤ◌, ◌+◌, ◌/◌, ◌%◌, ℤ, ℕ, zero, suc, pos, negsuc, neg_ℤ, unsigned_abs, true, arith, FitsSigned, to_z, of_z, to_z-of_z}
use Rattle.std.specs.Prelude.{int_div, int_rem, int_lt}
use Rattle.std.specs.Int.{Width, w128}
use Rattle.std.proofs.lemmas.Int.{ints, fits_signed_from_abs, rem_below, quot_fits}
use Rattle.rstar_base.proofs.Products.{size_of_fit}
use mathlib.Core.Bool.{beq}
use mir.Val.{hbits}

-- half of a sum of two numbers with one sign
abbrev pub halves : ℤ → ℤ → ℤ
halves a b = (int_div a (pos 2) +ℤ int_div b (pos 2)) +ℤ int_div (int_rem a (pos 2) +ℤ int_rem b (pos 2)) (pos 2)

negated-sum : (m n : ℕ) → neg_ℤ (pos m) +ℤ neg_ℤ (pos n) ≡ neg_ℤ (pos (m + n))
negated-sum m n = omega (arith, ints)

negated-half : (n : ℕ) → int_div (neg_ℤ (pos n)) (pos 2) ≡ neg_ℤ (pos (n / 2))
negated-half zero = refl
negated-half (suc n) = refl

negated-halves : (p q r s t : ℕ) → t ≡ p + q + (r + s) / 2
    → (neg_ℤ (pos p) +ℤ neg_ℤ (pos q)) +ℤ int_div (neg_ℤ (pos r) +ℤ neg_ℤ (pos s)) (pos 2) ≡ neg_ℤ (pos t)
negated-halves p q r s t e = rw (negated-sum p q, negated-sum r s, negated-half (r + s), negated-sum (p + q) ((r + s) / 2), e) refl

pub halves_sum : (a b : ℤ) → beq (int_lt a (pos 0)) (int_lt b (pos 0)) ≡ true → halves a b ≡ int_div (a +ℤ b) (pos 2)
halves_sum (pos m) (pos n) h = omega (arith, ints)
halves_sum (negsuc m) (negsuc n) h = negated-halves (suc m / 2) (suc n / 2) (suc m % 2) (suc n % 2) (suc (suc (m + n)) / 2) (omega arith)
halves_sum a b h = absurd (grind (arith, ints))

-- ---- half of a sum of two numbers that fit fits

negative-fits : (w : Width) (n : ℕ) → 0 < 2 ^ hbits w → n ≤ 2 ^ hbits w → FitsSigned w (neg_ℤ (pos n))
negative-fits w zero p h = record { sfits = p }
negative-fits w (suc n) p h = record { sfits = omega arith }

apart-fits : (w : Width) (m n : ℕ) → m < 2 ^ hbits w → n < 2 ^ hbits w → FitsSigned w (pos m +ℤ negsuc n)
apart-fits w zero n h k =
    let e : negsuc n ≡ pos zero +ℤ negsuc n = omega (arith, ints) in subst (FitsSigned w) e (record { sfits = k })
apart-fits w (suc m) n h k = fits_signed_from_abs w (pos (suc m) +ℤ negsuc n) (omega (arith, ints))

half-fits : (w : Width) (a b : ℤ) → FitsSigned w a → FitsSigned w b → FitsSigned w (int_div (a +ℤ b) (pos 2))
half-fits w (pos m) (pos n) h k = let i = h.sfits in let j = k.sfits in record { sfits = omega (arith, i, j) }
half-fits w (pos m) (negsuc n) h k = quot_fits w (pos m +ℤ negsuc n) (pos 2) (apart-fits w m n h.sfits k.sfits) (record { lt = tt })
half-fits w (negsuc m) (pos n) h k = quot_fits w (pos n +ℤ negsuc m) (pos 2) (apart-fits w n m k.sfits h.sfits) (record { lt = tt })
half-fits w (negsuc m) (negsuc n) h k = let i = h.sfits in let j = k.sfits in negative-fits w (suc (suc (m + n)) / 2) (omega (arith, i)) (omega (arith, i, j))

-- ---- each step of that half fits

abs_of_sum : (x y : ℤ) → unsigned_abs (x +ℤ y) ≤ unsigned_abs x + unsigned_abs y
abs_of_sum x y = omega (arith, ints)

pub rest_fits : (a : ℤ) → FitsSigned w128 (int_rem a (pos 2))
rest_fits a = let h = rem_below a (pos 2) (omega arith) in fits_signed_from_abs w128 (int_rem a (pos 2)) (omega (arith, h))

pub rests_fit : (a b : ℤ) → FitsSigned w128 (int_rem a (pos 2) +ℤ int_rem b (pos 2))
rests_fit a b =
    let h = rem_below a (pos 2) (omega arith) in
    let k = rem_below b (pos 2) (omega arith) in
    let l = abs_of_sum (int_rem a (pos 2)) (int_rem b (pos 2)) in
    fits_signed_from_abs w128 (int_rem a (pos 2) +ℤ int_rem b (pos 2)) (omega (arith, h, k, l))

pub parts_fit : (a b : ℤ) → FitsSigned w128 a → FitsSigned w128 b → beq (int_lt a (pos 0)) (int_lt b (pos 0)) ≡ true → FitsSigned w128 (int_div a (pos 2) +ℤ int_div b (pos 2))
parts_fit (pos m) (pos n) h k e = record { sfits = omega (arith, h.sfits, k.sfits) }
parts_fit (negsuc m) (negsuc n) h k e = rw (negated-sum (suc m / 2) (suc n / 2)) (negative-fits w128 (suc m / 2 + suc n / 2) (omega arith) (omega (arith, h.sfits, k.sfits)))
parts_fit a b h k e = absurd (grind (arith, ints))

pub halves_fit : (a b : ℤ) → FitsSigned w128 a → FitsSigned w128 b → beq (int_lt a (pos 0)) (int_lt b (pos 0)) ≡ true → FitsSigned w128 (halves a b)
halves_fit a b h k e = rw (halves_sum a b e) (half-fits w128 a b h k)

-- ---- half of a sum of two numbers of a narrow type, computed in a wider one

sum_size : (a b : ℤ) (n m : ℕ) → unsigned_abs a ≤ n → unsigned_abs b ≤ n → n + n < m → unsigned_abs (a +ℤ b) < m
sum_size a b n m h k room = let l = abs_of_sum a b in omega arith

module _ (narrow wide : Width) (a b x y : ℤ) (room : 2 ^ hbits narrow + 2 ^ hbits narrow < 2 ^ hbits wide)
    (h : FitsSigned narrow a) (k : FitsSigned narrow b) (e : x ≡ a) (f : y ≡ b) where
  sum-is : x +ℤ y ≡ a +ℤ b
  sum-is = cc (e, f)

  pub sum_fits : FitsSigned wide (x +ℤ y)
  sum_fits =
      subst (FitsSigned wide) (sym sum-is)
      (fits_signed_from_abs wide (a +ℤ b) (sum_size a b (2 ^ hbits narrow) (2 ^ hbits wide) (size_of_fit narrow a h) (size_of_fit narrow b k) room))

  -- the sum and its half, read in the wide type
  sum-read : to_z wide (of_z wide (x +ℤ y)) ≡ a +ℤ b
  sum-read = to_z-of_z sum_fits ∙ sum-is

  pub half_fits_wide : FitsSigned wide (int_div (to_z wide (of_z wide (x +ℤ y))) (pos 2))
  half_fits_wide = quot_fits wide (to_z wide (of_z wide (x +ℤ y))) (pos 2) (subst (FitsSigned wide) (sym (to_z-of_z sum_fits)) sum_fits) (record { lt = tt })

  half-read : to_z wide (of_z wide (int_div (to_z wide (of_z wide (x +ℤ y))) (pos 2))) ≡ int_div (a +ℤ b) (pos 2)
  half-read = to_z-of_z half_fits_wide ∙ ap (λ z. int_div z (pos 2)) sum-read

  pub half_fits_narrow : FitsSigned narrow (to_z wide (of_z wide (int_div (to_z wide (of_z wide (x +ℤ y))) (pos 2))))
  half_fits_narrow = subst (FitsSigned narrow) (sym half-read) (half-fits narrow a b h k)

  pub half_held : to_z narrow (of_z narrow (to_z wide (of_z wide (int_div (to_z wide (of_z wide (x +ℤ y))) (pos 2))))) ≡ int_div (a +ℤ b) (pos 2)
  half_held = to_z-of_z half_fits_narrow ∙ half-read
