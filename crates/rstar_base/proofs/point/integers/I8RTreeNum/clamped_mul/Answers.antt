use Rattle.std.proofs.Common.{lit<}
use Rattle.std.specs.Int.{w8, w16}
use Rattle.rstar_base.proofs.Products.{widened, product_held}
use Rattle.rstar_base.proofs.point.integers.I8RTreeNum.clamped_mul.Goals as goal

pub returns : goal.returns
returns c =
    product_held w8 w16 c.args.self c.args.other _ _ c.clamped_to_i8.result (lit< tt) c.ranges.self c.ranges.other
    (widened w8 w16 c.args.self c.from.result c.ranges.self (record { sfits = c.from.type_inv }) c.from.ensures)
    (widened w8 w16 c.args.other c.from-2.result c.ranges.other (record { sfits = c.from-2.type_inv }) c.from-2.ensures)
    c.clamped_to_i8.ensures (record { sfits = c.clamped_to_i8.type_inv })
