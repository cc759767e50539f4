use Rattle.std.proofs.Common.{◌≡◌, ◌<◌, ◌+◌, ℕ, zero, suc, Bool, true, false, ◌&&◌, arith, refl, ap, ap₂, sym, ◌∙◌}
use Rattle.rstar_base.specs.Points.{all_below}
use Rattle.rstar_base.proofs.axes.every_axis.Goals as goal

and-true : (a : Bool) → (a && true) ≡ a
and-true true = refl
and-true false = refl

and-assoc : (a b c : Bool) → (a && (b && c)) ≡ ((a && b) && c)
and-assoc true b c = refl
and-assoc false b c = refl

all_below-last : (n : ℕ) (t : ℕ → Bool) → all_below (suc n) t ≡ (all_below n t && t n)
all_below-last zero t = and-true (t zero)
all_below-last (suc n) t = ap (λ b. t zero && b) (all_below-last n (λ i. t (suc i))) ∙ and-assoc (t zero) (all_below n (λ i. t (suc i))) (t (suc n))

pub loop-i-preserved : goal.loop-i-preserved
loop-i-preserved g c =
    let inside : c.loop-i.i < g.P.Point.DIMENSIONS = omega (arith, c.DIMENSIONS-i-end.ensures, c.loop-i-test.true) in
    let next : c.loop-i.i + 1 ≡ suc c.loop-i.i = omega arith in
    (omega (arith, inside), λ t h. ap₂ (λ a b. a && b) (c.loop-i.invariant.1 t h) (h c.loop-i.i c.test-all.result inside c.test-all.ensures) ∙ sym (ap (λ m. all_below m t) next ∙ all_below-last c.loop-i.i t))
