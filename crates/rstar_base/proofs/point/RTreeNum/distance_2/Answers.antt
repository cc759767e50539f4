use Rattle.std.proofs.Common.{ap, ◌∙◌}
use Rattle.std.specs.Ordering.{is_lt, is_some_and}
use Rattle.rstar_base.proofs.Squares.{square_up, square_down}
use Rattle.rstar_base.proofs.point.RTreeNum.distance_2.Goals.{then-lt, else-lt}
use Rattle.rstar_base.proofs.point.RTreeNum.distance_2.Goals as goal

pub returns : goal.returns
returns g c =
    let law = g.met.Self.RTreeNum in
    let a = g.Self.Number.value c.args.self in
    let b = g.Self.Number.value c.args.other in
    let order = ap (is_some_and is_lt) (g.met.Self.Number.order_law c.args.self c.args.other g.met.Self.Integral.exact_law) in
    elim c.if-lt.branch [
      | then-lt w ↦ square_up g.Self.Bounded.low g.Self.Bounded.high a b _ _ law.low_law law.high_law (w.if-lt.ensures ∙ order) (ap g.Self.Number.value w.apart-is ∙ w.clamped_sub-apart.ensures) c.clamped_mul.ensures
      | else-lt w ↦ square_down g.Self.Bounded.low g.Self.Bounded.high a b _ _ law.low_law law.high_law (w.if-lt.ensures ∙ order) (ap g.Self.Number.value w.apart-is ∙ w.clamped_sub-apart-else-lt.ensures) c.clamped_mul.ensures
    ]
