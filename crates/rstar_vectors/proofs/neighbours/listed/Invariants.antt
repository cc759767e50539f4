use Rattle.std.proofs.Common.{◌≡◌, map, Ok}
use Rattle.rstar_vectors.proofs.neighbours.listed.Given as goal

-- each item so far was an element
abbrev pub invariant-loop-item : goal.invariant-loop-item
invariant-loop-item g l = l.yielded ≡ map Ok l.all.items
