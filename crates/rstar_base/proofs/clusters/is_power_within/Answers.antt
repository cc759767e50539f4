use Rattle.std.proofs.Common.{rules, arith, ◌^◌, ◌*◌, ◌<◌, ◌≤◌, sym, ◌∙◌, ap}
use Rattle.std.proofs.lemmas.Grind.{pow_more}
use Rattle.rstar_base.proofs.Powers.{one_more, too_large, positive}
use Rattle.rstar_base.proofs.clusters.is_power_within.Goals as goal

pub returns-then-limit-eq0 : goal.returns-then-limit-eq0
returns-then-limit-eq0 c = let some : 0 < c.args.base ^ c.args.exponent = positive _ c.args.exponent c.requires in search rules

pub returns-then-limit-base : goal.returns-then-limit-base
returns-then-limit-base c =
    let far : c.args.limit < c.args.base ^ c.args.exponent = too_large c.args.base c.args.exponent c.loop-turn.turn c.args.limit c.loop-turn.power c.requires c.loop-turn.invariant.0 (omega arith) (omega arith) in
    search rules

pub loop-turn-preserved : goal.loop-turn-preserved
loop-turn-preserved c =
    let fits : c.loop-turn.power * c.args.base ≤ c.args.limit = one_more _ _ _ c.requires (omega arith) in
    (ap (λ x. x * c.args.base) c.loop-turn.invariant.0 ∙ sym (pow_more c.args.base c.loop-turn.turn), search rules, fits)
