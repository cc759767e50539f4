use Rattle.std.proofs.Common.{◌≤◌, map}
use Rattle.rstar.specs.Nodes.{total, all_given}
use Rattle.rstar.specs.inside.Traversals.{steps}
use Rattle.rstar.specs.Visits.{Visits}
use Rattle.rstar.proofs.visits.+visit_nodes.Given as goal

abbrev pub decreases-visit_nodes : goal.decreases-visit_nodes
decreases-visit_nodes g l = total (map steps (g.N.NodesRef.nodes l.nodes))

abbrev pub invariant-loop-leaf : goal.invariant-loop-leaf
invariant-loop-leaf g l = record {
  less : total (map steps (g.N.NodesRef.nodes l.left)) ≤ total (map steps (g.N.NodesRef.nodes l.fn.nodes));
  come : (r : _) (w : _) →
      Visits g.N.NodesRef.element (goal.V-step g) l.visitor (all_given (g.F.Question.accepts l.func) (g.F.Question.selects l.func) (g.N.NodesRef.nodes l.left)) r w →
      Visits g.N.NodesRef.element (goal.V-step g) l.fn.visitor (all_given (g.F.Question.accepts l.func) (g.F.Question.selects l.func) (g.N.NodesRef.nodes l.fn.nodes)) r w;
}

abbrev pub decreases-loop-leaf : goal.decreases-loop-leaf
decreases-loop-leaf g l = total (map steps (g.N.NodesRef.nodes l.left))
