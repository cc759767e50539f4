use Rattle.std.proofs.Common.{ℕ}
use Rattle.rstar_base.proofs.axes.copied_point.Goals as goal

pub returns-clause-coords : goal.returns-clause-coords
returns-clause-coords g c = c.generated.ensures.coords (λ (i : ℕ). g.P.Point.coord c.args.p.now i) (λ i y l s. s.0)
