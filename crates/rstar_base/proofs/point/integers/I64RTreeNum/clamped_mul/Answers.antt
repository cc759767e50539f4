use Rattle.std.proofs.Common.{lit<}
use Rattle.std.specs.Int.{w64, w128}
use Rattle.rstar_base.proofs.Products.{widened, product_held}
use Rattle.rstar_base.proofs.point.integers.I64RTreeNum.clamped_mul.Goals as goal

pub returns-else-is_small : goal.returns-else-is_small
returns-else-is_small c =
    product_held w64 w128 c.args.self c.args.other _ _ c.clamped_to_i64.result (lit< tt) c.ranges.self c.ranges.other
    (widened w64 w128 c.args.self c.from.result c.ranges.self (record { sfits = c.from.type_inv }) c.from.ensures)
    (widened w64 w128 c.args.other c.from-else-is_small.result c.ranges.other (record { sfits = c.from-else-is_small.type_inv }) c.from-else-is_small.ensures)
    c.clamped_to_i64.ensures (record { sfits = c.clamped_to_i64.type_inv })
