use Rattle.std.proofs.Common.{ℤ}
use Rattle.std.proofs.lemmas.Bool.{and_left}
use Rattle.rstar_base.proofs.SegmentLemmas.{sum_of_product, within_fits, none_fits}
use Rattle.rstar_base.proofs.segments.add_product.Goals as goal

pub returns-in-Some : goal.returns-in-Some
returns-in-Some g c =
    let law = λ (z : ℤ). g.met.S.Bounded.bounds_law z g.met.S.Integral.exact_law in
    let h = g.met.S.CheckedMul.checked_mul_law _ _ _ c.in-Some.ensures in
    sum_of_product g.S.Number.value g.S.Number.fits g.S.Bounded.low g.S.Bounded.high _ _ _ c.checked_add.result (law _)
    (within_fits _ _ _ ((law _).0 h.0)) h.1 (g.met.S.CheckedAdd.checked_add_law _ _ _ c.checked_add.ensures)

pub returns-in-None : goal.returns-in-None
returns-in-None g c =
    let h = g.met.S.CheckedMul.checked_mul_law _ _ _ c.in-None.ensures in
    and_left _ _ (none_fits _ _ _ (λ p. h ((g.met.S.Bounded.bounds_law _ g.met.S.Integral.exact_law).1 p)))
