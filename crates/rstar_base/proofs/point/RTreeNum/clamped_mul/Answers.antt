use Rattle.std.proofs.Common.{sym}
use Rattle.rstar_base.proofs.Clamp.{clamped_exact, product_high, product_low, beq_same, beq_apart}
use Rattle.rstar_base.proofs.point.RTreeNum.clamped_mul.Goals as goal

pub returns-then-is_negative : goal.returns-then-is_negative
returns-then-is_negative g c =
    let e = g.met.Self.Integral.exact_law in
    rw (← c.ord-a.ensures.same, ← c.ord-b.ensures.same, c.max_value.ensures.value e)
    (sym (product_high _ _ (g.Self.Number.value c.ord-a.result) (g.Self.Number.value c.ord-b.result) g.met.Self.RTreeNum.low_law
    (beq_same _ _ _ _ (c.is_negative.ensures.value e) (c.is_negative-in-None.ensures.value e) c.if-is_negative.true)
    (λ p. g.met.Self.CheckedMul.checked_mul_law _ _ _ c.in-None.ensures ((g.met.Self.Bounded.bounds_law _ e).1 p))))

pub returns-else-is_negative : goal.returns-else-is_negative
returns-else-is_negative g c =
    let e = g.met.Self.Integral.exact_law in
    rw (← c.ord-a.ensures.same, ← c.ord-b.ensures.same, c.min_value.ensures.value e)
    (sym (product_low _ _ (g.Self.Number.value c.ord-a.result) (g.Self.Number.value c.ord-b.result) g.met.Self.RTreeNum.high_law
    (beq_apart _ _ _ _ (c.is_negative.ensures.value e) (c.is_negative-in-None.ensures.value e) c.if-is_negative.false)
    (λ p. g.met.Self.CheckedMul.checked_mul_law _ _ _ c.in-None.ensures ((g.met.Self.Bounded.bounds_law _ e).1 p))))

pub returns-in-Some : goal.returns-in-Some
returns-in-Some g c =
    let e = g.met.Self.Integral.exact_law in
    let h = g.met.Self.CheckedMul.checked_mul_law _ _ _ c.in-Some.ensures in
    rw (← c.ord-a.ensures.same, ← c.ord-b.ensures.same)
    (clamped_exact _ _ _ _ ((g.met.Self.Bounded.bounds_law _ e).0 h.0) h.1)
