use Rattle.std.proofs.Common.{arith, ◌*◌, ◌-◌, ◌≤◌, suc, sym, ◌∙◌, ap}
use Rattle.std.proofs.Math.Nat.{pow-suc}
use Rattle.rstar_base.proofs.Powers.{one_more, least_power, product_positive}
use Rattle.rstar_base.proofs.clusters.subtree_size.Goals as goal

pub loop-power-preserved : goal.loop-power-preserved
loop-power-preserved c =
    let fits : c.loop-power.power * c.args.base ≤ c.args.n - 1 = one_more c.args.base _ _ (omega arith) (omega arith) in (
      product_positive _ _ c.loop-power.invariant.0 (omega arith),
      omega arith,
      (suc c.loop-power.invariant.2.0, ap (λ x. x * c.args.base) c.loop-power.invariant.2.1 ∙ sym (pow-suc c.args.base c.loop-power.invariant.2.0)),
    )

pub returns-clause-power : goal.returns-clause-power
returns-clause-power c = (
  c.loop-power.invariant.2.0,
  least_power c.args.base c.args.n c.loop-power.invariant.2.0 c.loop-power.power (omega arith) (omega arith) c.loop-power.invariant.2.1 c.loop-power.invariant.1 (omega arith),
  c.loop-power.invariant.2.1,
)
