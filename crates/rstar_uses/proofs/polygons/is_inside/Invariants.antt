use Rattle.std.proofs.Common.{◌≡◌, drop}
use Rattle.rstar_uses.specs.Polygons.{contains}
use Rattle.rstar_uses.proofs.Rings.{rest_contains}
use Rattle.rstar_uses.proofs.polygons.is_inside.Given as goal

abbrev pub invariant-loop-to : goal.invariant-loop-to
invariant-loop-to l = rest_contains l.fn.point l.from l.is_inside (drop l.to-index l.corners) ≡ contains l.fn.point l.corners
