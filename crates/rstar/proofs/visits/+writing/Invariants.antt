use Rattle.std.proofs.Common.{length, ◌-◌, ◌+◌, map}
use Rattle.std.specs.declared.ops.ControlFlow.TheVariants.{Continue}
use Rattle.rstar.specs.Nodes.{total}
use Rattle.rstar.specs.inside.Traversals.{steps}
use Rattle.rstar.proofs.visiting.Writing.{IsHalfway}
use Rattle.rstar.proofs.visits.+writing.Given as goal

abbrev pub decreases-visit_node_mut : goal.decreases-visit_node_mut
decreases-visit_node_mut g l = steps l.node.now

abbrev pub decreases-visit_nodes_mut : goal.decreases-visit_nodes_mut
decreases-visit_nodes_mut g l = 1 + total (map steps l.nodes.now)

-- the nodes before the index are done
abbrev pub invariant-visit_nodes_mut-loop-index : goal.invariant-visit_nodes_mut-loop-index
invariant-visit_nodes_mut-loop-index g l =
    IsHalfway g.T.Covered.object (g.F.Question.accepts l.func) (g.F.Question.selects l.func) (goal.V-step g) l.fn.visitor (Continue tt) l.visitor l.index l.fn.nodes l.nodes

abbrev pub decreases-visit_nodes_mut-loop-index : goal.decreases-visit_nodes_mut-loop-index
decreases-visit_nodes_mut-loop-index g l = length l.initial.nodes - l.index
