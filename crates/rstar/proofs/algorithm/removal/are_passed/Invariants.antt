use Rattle.std.proofs.Common.{length}
use Rattle.rstar.specs.Lists.{NoneSelected}
use Rattle.rstar.specs.Nodes.{all_elements}
use Rattle.rstar.proofs.algorithm.removal.are_passed.Given as goal

-- the nodes that are left decide
abbrev pub invariant-loop-first : goal.invariant-loop-first
invariant-loop-first g l = NoneSelected (g.R.Question.selects l.func) (all_elements l.left)
    → NoneSelected (g.R.Question.selects l.func) (all_elements l.nodes)

abbrev pub decreases-loop-first : goal.decreases-loop-first
decreases-loop-first g l = length l.left
