use Rattle.rstar_base.proofs.Squares.{square_law}
use Rattle.rstar_base.proofs.MinMax.{least_clamped}
use Rattle.rstar_base_vectors.proofs.interval.squared_nearer_end.Goals as goal

pub returns : goal.returns
returns g c =
    square_law g.S.Bounded.low g.S.Bounded.high _ _ _ g.met.S.RTreeNum.low_law g.met.S.RTreeNum.high_law
    (least_clamped _ _ _ _ _ _ c.gap.ensures c.gap-2.ensures c.least-end.ensures.value) c.clamped_mul.ensures
