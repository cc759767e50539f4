use Rattle.std.proofs.Common.{◌∙◌}
use Rattle.rstar_base.proofs.SegmentLemmas.{some_fits}
use Rattle.rstar_base.proofs.segments.product_fits.Goals as goal

pub returns : goal.returns
returns g c =
    c.is_some.ensures ∙ some_fits g.S.Number.value g.S.Number.fits g.S.Bounded.low g.S.Bounded.high _ c.checked_mul.result
    (g.met.S.Bounded.bounds_law _ g.met.S.Integral.exact_law) (g.met.S.CheckedMul.checked_mul_law _ _ _ c.checked_mul.ensures)
