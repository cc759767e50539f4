use Rattle.std.proofs.Common.{◌∙◌, ap, sym}
use Rattle.rstar_base.proofs.Measures.{extent_up, extent_none}
use Rattle.rstar_base_vectors.proofs.interval.length.Goals as goal

pub returns-then-not_above : goal.returns-then-not_above
returns-then-not_above g c =
    c.clamped_sub.ensures ∙ extent_up g.S.Bounded.low g.S.Bounded.high (g.S.Number.value c.args.from) (g.S.Number.value c.args.to) g.met.S.RTreeNum.low_law g.met.S.RTreeNum.high_law (sym c.not_above.ensures ∙ c.if-not_above.true)

pub returns-else-not_above : goal.returns-else-not_above
returns-else-not_above g c =
    ap g.S.Number.value c.zero.ensures ∙ g.met.S.Zero.zero_law g.met.S.Integral.exact_law
    ∙ extent_none g.S.Bounded.high (g.S.Number.value c.args.from) (g.S.Number.value c.args.to) (sym c.not_above.ensures ∙ c.if-not_above.false)
