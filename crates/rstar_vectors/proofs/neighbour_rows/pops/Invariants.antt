use Rattle.rstar.specs.Trees.{IsWholeTree}
use Rattle.rstar_vectors.proofs.neighbour_rows.pops.Given as goal

abbrev pub invariant-loop-distance : goal.invariant-loop-distance
invariant-loop-distance g l = IsWholeTree g.T.Envelope.Envelope.boxes g.T.RTreeObject.object 6 l.tree
