use Rattle.std.proofs.lemmas.List.Sorted.{IsPermutation-trans}
use Rattle.std.proofs.lemmas.Result.{IfOk-weaker}
use Rattle.rstar_base.proofs.Along.{IsPermutation-same}
use Rattle.rstar.specs.Trees.{IsWholeTree}
use Rattle.rstar.proofs.joining.SelfPairs.{root-joined, root-fewer}
use Rattle.rstar.proofs.rtree.RTree.intersecting_pairs.Goals as goal

pub returns-clause-all : goal.returns-clause-all
unfolding IsWholeTree
returns-clause-all g c =
    let joined = root-joined g.met.T.Envelope.Envelope.envelope_laws g.met.T.RTreeObject.object_law c.args.self.now.root c.requires.root_whole in
    IfOk-weaker c.new.result _ _ (λ it gives. IsPermutation-trans _ _ _ (IsPermutation-same _ _ gives) joined) c.new.ensures.gives

pub returns-clause-fewer : goal.returns-clause-fewer
unfolding IsWholeTree
returns-clause-fewer g c = root-fewer g.met.T.Envelope.Envelope.envelope_laws g.met.T.RTreeObject.object_law c.args.self.now.root c.requires.root_whole
