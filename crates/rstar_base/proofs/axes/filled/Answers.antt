use Rattle.std.proofs.Common.{ℕ}
use Rattle.rstar_base.proofs.axes.filled.Goals as goal

pub returns-clause-coords : goal.returns-clause-coords
returns-clause-coords g c = c.generated.ensures.coords (λ (i : ℕ). g.P.Scalar.Number.value c.args.z) (λ i y l s. s)
