use Rattle.std.proofs.Common.{ℕ, ◌+ℤ◌, pos}
use Rattle.std.specs.Prelude.{int_div}
use Rattle.rstar_base.proofs.aabb.middle_point.Goals as goal

pub returns : goal.returns
returns g c = c.generated.ensures.coords (λ (i : ℕ). int_div (g.P.Point.coord c.args.lower.now i +ℤ g.P.Point.coord c.args.upper.now i) (pos 2)) (λ i y l s. s)
