use Rattle.std.proofs.Common.{◌≡◌, take}
use Rattle.std.specs.List.{AllByRecursion}
use Rattle.rstar_base.specs.Hulls.{hull}
use Rattle.rstar.specs.Nodes.{node_box}
use Rattle.rstar.proofs.node.envelope_for_children.Given as goal

-- the merge of the envelopes so far, each of a value
abbrev pub invariant-loop-node : goal.invariant-loop-node
invariant-loop-node g l = record {
  values : AllByRecursion (λ n. g.T.Cover.Merges.boxes.IsValue (node_box g.T.Covered.object.box_of n)) (take l.node-index l.children);
  merged : l.all ≡ hull g.T.Cover.Merges.boxes (node_box g.T.Covered.object.box_of) (take l.node-index l.children);
}
