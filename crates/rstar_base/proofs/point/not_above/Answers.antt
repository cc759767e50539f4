use Rattle.std.proofs.Common.{ap, ◌∙◌}
use Rattle.std.specs.Ordering.{is_le, is_some_and}
use Rattle.rstar_base.proofs.Clamp.{le_by_order}
use Rattle.rstar_base.proofs.point.not_above.Goals as goal

pub returns : goal.returns
returns g c =
    c.le.ensures ∙ ap (is_some_and is_le) (g.met.S.Number.order_law c.args.a c.args.b g.met.S.Integral.exact_law) ∙ le_by_order (g.S.Number.value c.args.a) (g.S.Number.value c.args.b)
