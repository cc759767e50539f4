use Rattle.std.proofs.Common.{ℕ, ◌+ℤ◌, ◌*ℤ◌}
use Rattle.std.specs.Prelude.{int_div}
use Rattle.num_traits.specs.Laws.{between}
use Rattle.rstar_base.specs.laws.PointLemmas.{all_below-each}
use Rattle.rstar_base.proofs.segments.stepped.Goals as goal

pub generated-requires : goal.generated-requires
generated-requires g c = λ i l. (l, (c.requires.after, (c.requires.before, all_below-each g.P.Point.DIMENSIONS _ i l c.requires.fits)))

pub returns : goal.returns
returns g c =
    c.generated.ensures.coords (λ (i : ℕ). between (g.P.Point.coord c.args.from.now i +ℤ int_div (g.P.Point.coord c.args.dir.now i *ℤ g.P.Scalar.Number.value c.args.t) (g.P.Scalar.Number.value c.args.len)) g.P.Scalar.Bounded.low g.P.Scalar.Bounded.high) (λ i y l s. s)
