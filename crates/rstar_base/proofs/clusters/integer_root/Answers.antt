use Rattle.std.proofs.Common.{arith}
use Rattle.rstar_base.proofs.Powers.{zero_power, below_power}
use Rattle.rstar_base.proofs.clusters.integer_root.Goals as goal

pub loop-low-init : goal.loop-low-init
loop-low-init c = record { ordered = omega arith; within = omega (arith, zero_power c.args.exponent c.requires); above = below_power c.args.m c.args.exponent c.requires }
