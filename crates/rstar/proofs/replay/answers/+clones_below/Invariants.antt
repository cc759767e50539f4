use Rattle.std.proofs.Common.{◌≡◌, ◌≤◌, ◌++◌, map}
use Rattle.rstar.specs.Nodes.{total, all_given}
use Rattle.rstar.specs.inside.Traversals.{steps}
use Rattle.rstar.proofs.replay.answers.+clones_below.Given as goal

abbrev pub decreases-clones_below : goal.decreases-clones_below
decreases-clones_below g l = total (map steps l.nodes.now)

-- clones of what was given, and what is still to come
abbrev pub invariant-loop-t : goal.invariant-loop-t
invariant-loop-t g l = record {
  less : total (map steps l.left) ≤ total (map steps l.fn.nodes);
  rest : l.found.items ++ all_given (g.Func.Question.accepts l.func) (g.Func.Question.selects l.func) l.left
      ≡ l.fn.found.items ++ all_given (g.Func.Question.accepts l.func) (g.Func.Question.selects l.func) l.fn.nodes;
}

abbrev pub decreases-loop-t : goal.decreases-loop-t
decreases-loop-t g l = total (map steps l.left)
