use Rattle.std.proofs.Common.{take}
use Rattle.rstar.specs.inside.Earliest.{IsEarliestOf}
use Rattle.rstar.proofs.algorithm.removal.earliest.+earliest.Given as goal

-- the earliest of the nodes so far
abbrev pub invariant-earliest_below-loop-place : goal.invariant-earliest_below-loop-place
invariant-earliest_below-loop-place g l = IsEarliestOf (g.R.Question.accepts l.func) (g.R.Question.selects l.func) g.T.Ord.cmp (take l.place l.nodes) l.found
