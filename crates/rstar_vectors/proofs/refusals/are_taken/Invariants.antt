use Rattle.rstar.specs.Trees.{IsWholeTree}
use Rattle.rstar_vectors.proofs.refusals.are_taken.Given as goal

abbrev pub invariant-loop-element : goal.invariant-loop-element
invariant-loop-element g l = record {
  tree : IsWholeTree g.T.Envelope.Envelope.boxes g.T.RTreeObject.object 6 l.tree;
  twin : IsWholeTree g.T.Envelope.Envelope.boxes g.T.RTreeObject.object 6 l.twin;
}
