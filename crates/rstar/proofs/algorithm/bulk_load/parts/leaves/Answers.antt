use Rattle.std.proofs.Common.{◌∷◌, []}
use Rattle.std.proofs.lemmas.List.{map-append}
use Rattle.rstar.specs.declared.node.RTreeNode.{RTreeNode, Leaf}
use Rattle.rstar.proofs.algorithm.bulk_load.parts.leaves.Goals as goal

pub loop-t-preserved : goal.loop-t-preserved
loop-t-preserved g c = rw (map-append {B = RTreeNode g.row.T.Denot g.row.T-Cover.Denot} Leaf c.loop-t.yielded (c.in-Some.t ∷ []), ← c.loop-t.invariant) c.in_ok-push.ensures.items
