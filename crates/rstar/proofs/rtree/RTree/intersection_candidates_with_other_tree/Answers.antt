use Rattle.std.proofs.lemmas.List.Sorted.{IsPermutation-trans}
use Rattle.std.proofs.lemmas.Result.{IfOk-weaker}
use Rattle.rstar_base.proofs.Along.{IsPermutation-same}
use Rattle.rstar.specs.Trees.{IsWholeTree}
use Rattle.rstar.proofs.joining.Joined.{roots-joined}
use Rattle.rstar.proofs.rtree.RTree.intersection_candidates_with_other_tree.Goals as goal

pub returns-clause-all : goal.returns-clause-all
unfolding IsWholeTree
returns-clause-all g c =
    let joined = roots-joined g.met.T.Envelope.Envelope.envelope_laws g.met.U.Envelope.Envelope.envelope_laws g.met.U.InEnvelope.seen_laws g.met.T.RTreeObject.object_law g.met.U.RTreeObject.object_law
    c.args.self.now.root c.args.other.now.root c.requires.this.root_whole c.requires.other.root_whole in
    IfOk-weaker c.new.result _ _ (λ it gives. IsPermutation-trans _ _ _ (IsPermutation-same _ _ gives) joined) c.new.ensures.gives
