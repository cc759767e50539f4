use Rattle.std.proofs.Common.{◌-◌, ◌/◌, arith}
use Rattle.std.proofs.Math.Nat.{mod-add-div'}
use Rattle.rstar.proofs.algorithm.bulk_load.depth.last_slab.Goals as goal

pub returns-clause-last : goal.returns-clause-last
returns-clause-last c =
    let whole = mod-add-div' (c.args.n - 1) c.args.slab in
    ((c.args.n - 1) / c.args.slab, omega (arith, whole), omega (arith, whole))
