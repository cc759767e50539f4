use Rattle.rstar_base.proofs.MinMax.{greatest_clamped}
use Rattle.rstar_base.proofs.Squares.{square_law}
use Rattle.rstar_base.proofs.aabb.gaps.square_of_gap.Goals as goal

pub returns : goal.returns
returns g c =
    square_law g.S.Bounded.low g.S.Bounded.high _ _ _ g.met.S.RTreeNum.low_law g.met.S.RTreeNum.high_law
    (greatest_clamped _ _ _ _ _ _ c.extent_between-above.ensures c.extent_between-below.ensures c.greatest-apart.ensures.value)
    c.clamped_mul.ensures
