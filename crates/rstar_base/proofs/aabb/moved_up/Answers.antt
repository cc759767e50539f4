use Rattle.std.proofs.Common.{ℕ, ◌+ℤ◌}
use Rattle.num_traits.specs.Laws.{between}
use Rattle.rstar_base.proofs.aabb.moved_up.Goals as goal

pub returns : goal.returns
returns g c =
    c.generated.ensures.coords (λ (i : ℕ). between (g.P.Point.coord c.args.p.now i +ℤ g.P.Scalar.Number.value c.args.by) g.P.Scalar.Bounded.low g.P.Scalar.Bounded.high) (λ i y l s. s)
