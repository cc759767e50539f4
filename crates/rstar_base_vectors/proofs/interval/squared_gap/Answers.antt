use Rattle.rstar_base.proofs.Squares.{square_law}
use Rattle.rstar_base_vectors.proofs.interval.squared_gap.Goals as goal

pub returns : goal.returns
returns g c = square_law g.S.Bounded.low g.S.Bounded.high _ _ _ g.met.S.RTreeNum.low_law g.met.S.RTreeNum.high_law c.gap-gap.ensures c.clamped_mul.ensures
