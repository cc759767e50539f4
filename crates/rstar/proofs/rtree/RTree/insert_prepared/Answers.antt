use Rattle.std.proofs.Common.{◌+◌, sym, subst, arith}
use Rattle.std.proofs.lemmas.List.Sorted.{length_permutation}
use Rattle.rstar.specs.Trees.{IsWholeTree}
use Rattle.rstar.specs.Heights.{spare_lists}
use Rattle.rstar.specs.inside.Reserves.{IsReady}
use Rattle.rstar.proofs.trees.WholeTrees.{some_below, kept_root, kept_at, sized_at}
use Rattle.rstar.proofs.rtree.RTree.insert_prepared.Goals as goal

pub insert_with_reinsertion-self-requires-clause-place : goal.insert_with_reinsertion-self-requires-clause-place
unfolding IsWholeTree
insert_with_reinsertion-self-requires-clause-place g c =
    let whole = c.requires.whole in
    record {
      node = record { tight = whole.root_whole.tight; narrow = whole.narrow };
      below = kept_at g.T.Envelope.Envelope.boxes g.T.RTreeObject.object c.args.self.now.reserve.widest whole.root_whole.height c.args.self.now.levels c.args.self.now.root.children.items
          whole.leveled whole.root_whole.below whole.narrow_below;
      some = λ above. omega (arith, c.args.self.now.root.children.ok.0, some_below c.args.self.now.root.children.items c.args.self.now.levels whole.leveled above);
      element = c.requires.element;
    }

pub insert_with_reinsertion-self-requires-clause-ready : goal.insert_with_reinsertion-self-requires-clause-ready
unfolding IsWholeTree
insert_with_reinsertion-self-requires-clause-ready g c =
    subst (λ n. IsReady g.Params.RTreeParams.MAX_SIZE (spare_lists g.Params.RTreeParams.REINSERTION_COUNT (1 + n)) c.args.self.now.reserve) (sym c.requires.whole.leveled) c.requires.ready

pub returns-clause-whole : goal.returns-clause-whole
unfolding IsWholeTree
returns-clause-whole g c =
    let done = c.insert_with_reinsertion-self.ensures in
    kept_root g.met.T.Envelope.Envelope.envelope_laws g.met.T.RTreeObject.object_law g.Params.RTreeParams.MAX_SIZE c.args.self.now.reserve.widest _ done.kept
    (omega (arith, length_permutation _ _ done.bag, c.requires.whole.counted)) (omega arith) c.requires.whole.wide c.requires.whole.wide_fits done.spends.widest done.spends.spares done.spends.overfull.0

pub returns-clause-sized : goal.returns-clause-sized
unfolding IsWholeTree
returns-clause-sized g c = λ sized.
    let below = sized_at g.Params.RTreeParams.MIN_SIZE g.Params.RTreeParams.MAX_SIZE g.Params.RTreeParams.min_positive sized.height c.args.self.now.levels c.args.self.now.root.children.items c.requires.whole.leveled sized.below in
    let after = c.insert_with_reinsertion-self.ensures.sized (below, omega (arith, sized.most, c.args.self.now.root.children.ok.0)) in
    record { height = c.insert_with_reinsertion-self.result; most = omega (arith, after.1, c.insert_with_reinsertion-self.new.root.children.ok.0); below = after.0 }
