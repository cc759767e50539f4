use Rattle.std.proofs.Common.{◌≡◌, map, take}
use Rattle.rstar.proofs.commands.Firsts.{lent}
use Rattle.rstar.proofs.replay.answers.clones_of_lent.Given as goal

-- the clones so far
abbrev pub invariant-loop-place : goal.invariant-loop-place
invariant-loop-place g l = l.found.items ≡ map lent (take l.place l.lent.items)
