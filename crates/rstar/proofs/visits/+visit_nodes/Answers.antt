use Rattle.std.proofs.Common.{arith}
use Rattle.std.specs.declared.ops.ControlFlow.TheVariants.{Break}
use Rattle.rstar.proofs.visiting.Visits.{Visits-append, Visits-break}
use Rattle.rstar.proofs.visits.+visit_nodes.Goals as goal

pub returns-in-Break-visit_nodes : goal.returns-in-Break-visit_nodes
returns-in-Break-visit_nodes g t c =
    c.loop-leaf.invariant.come (Break c.in-Break-visit_nodes.b) c.visit_nodes.new.visitor
    (rw c.in-Open.ensures.0 (Visits-break g.N.NodesRef.element (goal.V-step g) c.loop-leaf.visitor _ _ c.in-Break-visit_nodes.b c.visit_nodes.new.visitor c.in-Break-visit_nodes.ensures))

pub loop-leaf-preserved : goal.loop-leaf-preserved
loop-leaf-preserved g t c = record {
  less = omega (arith, c.loop-leaf.invariant.less, c.in-Open.ensures.1);
  come = λ r w rest. c.loop-leaf.invariant.come r w
      (rw c.in-Open.ensures.0 (Visits-append g.N.NodesRef.element (goal.V-step g) c.loop-leaf.visitor c.visit_nodes.new.visitor _ _ r w c.in_default-visit_nodes.ensures rest));
}
