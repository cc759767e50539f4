use Rattle.rstar_base.specs.laws.PointLemmas.{array-back}
use Rattle.rstar_base.proofs.point.arrays.ArrayPoint.nth.Goals as goal

pub returns-clause-own : goal.returns-clause-own
returns-clause-own g c =
    array-back g.S.Number.value g.S.RTreeNum.of_value g.met.S.RTreeNum.of_value_law
    g.S.Zero.zero g.row.N c.args.self.now c.told-self
