use Rattle.std.proofs.Common.{◌∙◌, sym}
use Rattle.rstar_base.proofs.Clamp.{clamped_exact, difference_high, difference_low}
use Rattle.rstar_base.proofs.point.RTreeNum.clamped_sub.Goals as goal

pub returns-then-is_negative : goal.returns-then-is_negative
returns-then-is_negative g c =
    let e = g.met.Self.Integral.exact_law in
    rw (← c.ord-a.ensures.same, ← c.ord-b.ensures.same, c.max_value.ensures.value e)
    (sym (difference_high _ _ _ _ (rw (← c.ord-a.ensures.same) at c.ord-a.ensures.range) (sym (c.is_negative.ensures.value e) ∙ c.if-is_negative.true)
    (λ p. g.met.Self.CheckedSub.checked_sub_law _ _ _ c.in-None.ensures ((g.met.Self.Bounded.bounds_law _ e).1 p))))

pub returns-else-is_negative : goal.returns-else-is_negative
returns-else-is_negative g c =
    let e = g.met.Self.Integral.exact_law in
    rw (← c.ord-a.ensures.same, ← c.ord-b.ensures.same, c.min_value.ensures.value e)
    (sym (difference_low _ _ _ _ (rw (← c.ord-a.ensures.same) at c.ord-a.ensures.range) (sym (c.is_negative.ensures.value e) ∙ c.if-is_negative.false)
    (λ p. g.met.Self.CheckedSub.checked_sub_law _ _ _ c.in-None.ensures ((g.met.Self.Bounded.bounds_law _ e).1 p))))

pub returns-in-Some : goal.returns-in-Some
returns-in-Some g c =
    let e = g.met.Self.Integral.exact_law in
    let h = g.met.Self.CheckedSub.checked_sub_law _ _ _ c.in-Some.ensures in
    rw (← c.ord-a.ensures.same, ← c.ord-b.ensures.same)
    (clamped_exact _ _ _ _ ((g.met.Self.Bounded.bounds_law _ e).0 h.0) h.1)
