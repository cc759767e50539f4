-- Clamped sums, products and squares.
use Rattle.std.proofs.Common.{◌≡◌, ◌<ℤ◌, ◌+ℤ◌, ◌-ℤ◌, ◌*ℤ◌, ◌+◌, ◌*◌, ℤ, ℕ, suc, zero, pos, min, unsigned_abs, true, false, refl, ap, ◌∙◌, arith, inl, inr}
use Rattle.std.proofs.lemmas.Bool.{cases_lt}
use Rattle.std.proofs.lemmas.Int.{ints}
use Rattle.std.specs.Ordering.{is_lt, int_cmp}
use Rattle.num_traits.specs.Laws.{between}
use Rattle.rstar_base.specs.Distances.{square_apart}

-- a number that is not negative, clamped
clamped_pos : (low high : ℤ) (m : ℕ) → low <ℤ pos 0 → pos 0 <ℤ high → between (pos m) low high ≡ pos (min m (unsigned_abs high))
clamped_pos low high m h k = grind (arith, ints)

-- a sum of clamped numbers
pub clamped_more : (low high x y s : ℤ) (a b c : ℕ) → low <ℤ pos 0 → pos 0 <ℤ high → x ≡ pos (min a (unsigned_abs high)) → y ≡ pos (min b (unsigned_abs high))
    → s ≡ between (x +ℤ y) low high → c ≡ a + b → s ≡ pos (min c (unsigned_abs high))
clamped_more low high x y s a b c h k e f g n = rw (g, e, f, n) (clamped_pos low high _ h k ∙ ap pos (omega arith))

clamp_left : (a b top : ℕ) → min (min a top * b) top ≡ min (a * b) top
clamp_left a zero top = omega arith
clamp_left a (suc b) top = elim (cases_lt a top) [
  | inl l ↦ let e : min a top ≡ a = omega arith in rw e refl
  | inr l ↦ let e : min a top ≡ top = omega arith in rw e (omega arith)
]

clamp_both : (a b top : ℕ) → min (min a top * min b top) top ≡ min (a * b) top
clamp_both a b top = omega (arith, clamp_left a (min b top) top, clamp_left b a top)

-- a product of clamped numbers
pub clamped_times : (low high x y s : ℤ) (a b c : ℕ) → low <ℤ pos 0 → pos 0 <ℤ high → x ≡ pos (min a (unsigned_abs high)) → y ≡ pos (min b (unsigned_abs high))
    → s ≡ between (x *ℤ y) low high → c ≡ a * b → s ≡ pos (min c (unsigned_abs high))
clamped_times low high x y s a b c h k e f g n = rw (g, e, f, n) (clamped_pos low high _ h k ∙ ap pos (clamp_both a b _))

pub square_law : (low high d r : ℤ) (x : ℕ) → low <ℤ pos 0 → pos 0 <ℤ high → d ≡ pos (min x (unsigned_abs high)) → r ≡ between (d *ℤ d) low high
    → r ≡ pos (min (x * x) (unsigned_abs high))
square_law low high d r x h k e f = clamped_times low high d d r x x (x * x) h k e e f refl

-- the square of the difference of the lesser and the greater, each step clamped
pub square_up : (low high a b d r : ℤ) → low <ℤ pos 0 → pos 0 <ℤ high → true ≡ is_lt (int_cmp a b) → d ≡ between (b -ℤ a) low high → r ≡ between (d *ℤ d) low high
    → r ≡ pos (min (square_apart a b) (unsigned_abs high))
square_up low high a b d r h k l e f =
    let s : d ≡ pos (min (unsigned_abs (b -ℤ a)) (unsigned_abs high)) = grind (arith, ints) in
    square_law low high d r _ h k s f

pub square_down : (low high a b d r : ℤ) → low <ℤ pos 0 → pos 0 <ℤ high → false ≡ is_lt (int_cmp a b) → d ≡ between (a -ℤ b) low high → r ≡ between (d *ℤ d) low high
    → r ≡ pos (min (square_apart a b) (unsigned_abs high))
square_down low high a b d r h k l e f =
    let s : d ≡ pos (min (unsigned_abs (b -ℤ a)) (unsigned_abs high)) = grind (arith, ints) in
    square_law low high d r _ h k s f
