use Rattle.rstar.specs.Trees.{IsWholeTree}
use Rattle.rstar_vectors.proofs.by_order.pops.Given as goal

abbrev pub invariant-loop-pair : goal.invariant-loop-pair
invariant-loop-pair g l = IsWholeTree g.T.Envelope.Envelope.boxes g.T.RTreeObject.object 6 l.tree
