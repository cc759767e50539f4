use Rattle.std.proofs.Common.{◌≡◌, map, take}
use Rattle.rstar.proofs.algorithm.nearest_neighbor.few.lent.Given as goal

-- those so far
abbrev pub invariant-loop-one : goal.invariant-loop-one
invariant-loop-one g l = l.all.items ≡ map (λ w. (w.node, w.distance)) (take l.one-index l.one-items)
