use Rattle.std.proofs.Common.{take}
use Rattle.rstar_c.specs.Answers.{AreNearestEach}
use Rattle.rstar_c.proofs.store.Store.put_each_nearest.Given as goal

-- the points so far are answered
abbrev pub invariant-loop-place : goal.invariant-loop-place
invariant-loop-place l = AreNearestEach (take l.place-index l.places) l.most l.self l.initial.ids l.ids l.initial.distances l.distances l.next
