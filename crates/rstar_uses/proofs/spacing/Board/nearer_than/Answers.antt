use Rattle.std.proofs.Common.{◌∙◌, FitsSigned, rules}
use Rattle.std.proofs.lemmas.Result.{IfOk-weaker}
use Rattle.std.specs.Int.{w64}
use Rattle.rstar.specs.Gaps.{gap_sum}
use Rattle.rstar_uses.specs.Numbered.{box_of, is_nearer}
use Rattle.rstar_uses.proofs.Limits.{below-limit, filter-by}
use Rattle.rstar_uses.proofs.spacing.Board.nearer_than.Goals as goal

pub returns : goal.returns
returns c =
    let own : FitsSigned w64 c.saturating_sub.result = search rules in
    IfOk-weaker c.within.result _ _ (λ found given.
    given ∙ filter-by _ (is_nearer c.args.limit c.args.area) _ _ (λ part. below-limit (gap_sum c.args.area (box_of part)) c.args.limit c.saturating_sub.result c.ranges.limit own c.saturating_sub.ensures) c.self.view_is) c.within.ensures
