use Rattle.std.proofs.Common.{◌≡◌, lit<, to_z, of_z}
use Rattle.std.specs.Int.{w16, w32}
use Rattle.rstar_base.proofs.Products.{widened}
use Rattle.rstar_base.proofs.Halves.{sum_fits, half_fits_wide, half_fits_narrow, half_held}
use Rattle.rstar_base.proofs.point.integers.I16RTreeNum.half_sum.Goals as goal

first : (c : goal.After-from-2) → to_z w32 (of_z w32 c.from.result) ≡ c.args.self
first c = widened w16 w32 c.args.self c.from.result c.ranges.self (record { sfits = c.from.type_inv }) c.from.ensures

second : (c : goal.After-from-2) → to_z w32 (of_z w32 c.from-2.result) ≡ c.args.other
second c = widened w16 w32 c.args.other c.from-2.result c.ranges.other (record { sfits = c.from-2.type_inv }) c.from-2.ensures

pub overflow_add-result : goal.overflow_add-result
overflow_add-result c = sum_fits w16 w32 c.args.self c.args.other _ _ (lit< tt) c.ranges.self c.ranges.other (first c) (second c)

pub nonzero_div-result : goal.nonzero_div-result
nonzero_div-result c = (lit< tt, half_fits_wide w16 w32 c.args.self c.args.other _ _ (lit< tt) c.ranges.self c.ranges.other (first c) (second c))

pub overflow_cast-result : goal.overflow_cast-result
overflow_cast-result c = half_fits_narrow w16 w32 c.args.self c.args.other _ _ (lit< tt) c.ranges.self c.ranges.other (first c) (second c)

pub returns : goal.returns
returns c = half_held w16 w32 c.args.self c.args.other _ _ (lit< tt) c.ranges.self c.ranges.other (first c) (second c)
