use Rattle.std.proofs.Common.{ℕ}
use Rattle.std.specs.Int.{int_max}
use Rattle.rstar_base.proofs.axes.greatest_point.Goals as goal

pub returns-clause-coords : goal.returns-clause-coords
returns-clause-coords g c = c.generated.ensures.coords (λ (i : ℕ). int_max (g.P.Point.coord c.args.p.now i) (g.P.Point.coord c.args.q.now i)) (λ i y l s. s.0)
