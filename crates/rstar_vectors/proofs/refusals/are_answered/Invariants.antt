use Rattle.rstar.specs.Trees.{IsWholeTree}
use Rattle.rstar_vectors.proofs.refusals.are_answered.Given as goal

abbrev pub invariant-loop-call : goal.invariant-loop-call
invariant-loop-call g l = record {
  tree : IsWholeTree g.T.Envelope.Envelope.boxes g.T.RTreeObject.object 6 l.tree;
  twin : IsWholeTree g.T.Envelope.Envelope.boxes g.T.RTreeObject.object 6 l.twin;
}
