use Rattle.std.proofs.Common.{◌≡◌, ◌≤◌, map}
use Rattle.rstar.specs.Nodes.{total, all_given}
use Rattle.rstar.specs.inside.Traversals.{steps}
use Rattle.rstar.proofs.visits.+first_below.Given as goal

abbrev pub decreases-first_below : goal.decreases-first_below
decreases-first_below g l = total (map steps l.nodes.now)

-- nothing was given by what was passed
abbrev pub invariant-loop-leaf : goal.invariant-loop-leaf
invariant-loop-leaf g l = record {
  less : total (map steps l.left) ≤ total (map steps l.fn.nodes);
  same : all_given (g.F.Question.accepts l.func) (g.F.Question.selects l.func) l.fn.nodes
      ≡ all_given (g.F.Question.accepts l.func) (g.F.Question.selects l.func) l.left;
}

abbrev pub decreases-loop-leaf : goal.decreases-loop-leaf
decreases-loop-leaf g l = total (map steps l.left)
