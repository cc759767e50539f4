-- Products of numbers of a narrow type, computed in a wider one.
use Rattle.std.proofs.Common.{◌≡◌, ◌∙◌, ap, ◌≤◌, ◌<◌, ◌*◌, ◌-◌, ◌^◌, ◌*ℤ◌, ℤ, pos, negsuc, unsigned_abs, arith, FitsSigned, to_z, of_z, to_z-of_z}
use Rattle.std.specs.Int.{Width}
use Rattle.std.proofs.lemmas.Int.{fits_signed_mul}
use Rattle.num_traits.specs.Laws.{between}
use mir.Val.{hbits}

pub size_of_fit : (w : Width) (a : ℤ) → FitsSigned w a → unsigned_abs a ≤ 2 ^ hbits w
size_of_fit w (pos m) h = let k = h.sfits in omega (arith, k)
size_of_fit w (negsuc m) h = let k = h.sfits in omega (arith, k)

product_fits : (narrow wide : Width) (a b : ℤ) → 2 ^ hbits narrow * 2 ^ hbits narrow < 2 ^ hbits wide
    → FitsSigned narrow a → FitsSigned narrow b → FitsSigned wide (a *ℤ b)
product_fits narrow wide a b l h k = fits_signed_mul wide a b (2 ^ hbits narrow) (2 ^ hbits narrow) (size_of_fit narrow a h) (size_of_fit narrow b k) l

-- a number of the narrow type, read in the wide one
pub widened : (narrow wide : Width) (a x : ℤ) → FitsSigned narrow a → FitsSigned wide x → x ≡ to_z narrow (of_z narrow a) → to_z wide (of_z wide x) ≡ a
widened narrow wide a x h k e = to_z-of_z k ∙ e ∙ to_z-of_z h

-- z held between the ends of a width
abbrev pub held : Width → ℤ → ℤ
held w z = between z (negsuc (2 ^ hbits w - 1)) (pos (2 ^ hbits w - 1))

-- the product computed in the wide type and then held in the narrow one
pub product_held : (narrow wide : Width) (a b x y r : ℤ) → 2 ^ hbits narrow * 2 ^ hbits narrow < 2 ^ hbits wide
    → FitsSigned narrow a → FitsSigned narrow b → x ≡ a → y ≡ b → r ≡ held narrow (to_z wide (of_z wide (x *ℤ y))) → FitsSigned narrow r
    → to_z narrow (of_z narrow r) ≡ held narrow (a *ℤ b)
product_held narrow wide a b x y r l h k e f g m =
    let p : FitsSigned wide (a *ℤ b) = product_fits narrow wide a b l h k in
    let s : to_z wide (of_z wide (a *ℤ b)) ≡ a *ℤ b = to_z-of_z p in
    to_z-of_z m ∙ g ∙ ap (λ z. held narrow (to_z wide (of_z wide z))) (ap (λ z. z *ℤ y) e ∙ ap (λ z. a *ℤ z) f) ∙ ap (held narrow) s
