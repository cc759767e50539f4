use Rattle.std.proofs.Common.{refl}
use Rattle.rstar.specs.Trees.{IsWholeTree}
use Rattle.rstar.proofs.inserting.Insertion.{trees_map}
use Rattle.rstar.proofs.trees.Shown.{root-sized, root-loaded}
use Rattle.rstar.proofs.trees.Clones.{all_cloned, outline_cloned, tree_cloned_whole}
use Rattle.rstar.specs.Clones.{ClonesEqual}
use Rattle.rstar.proofs.rtree.RTree.clone.Goals as goal

pub returns : goal.returns
unfolding IsWholeTree
returns g c =
    let whole = c.requires.root_whole in
    let cloned = c.in_ok-root.ensures whole.height (trees_map (λ p q. q.1) (λ t q. tt) whole.height _ whole.below) in
    let both = λ (equal : ClonesEqual g.T.Clone.is_clone). tree_cloned_whole _ equal g.T.Envelope.Envelope.boxes g.T.RTreeObject.object _ _ _ c.requires c.in_ok-root.ensures refl refl c.new.ensures.widest c.new.ensures.none c.new.ensures.none_over in
    record {
      clones = all_cloned _ whole.height _ _ cloned;
      outline = record { outline = outline_cloned _ whole.height _ _ cloned; size = refl };
      same = λ equal. (both equal).0;
      whole = λ equal. (both equal).1;
      sized = λ equal sized. root-sized _ _ _ _ (both equal).0.shown sized;
      loaded = λ equal loaded. root-loaded _ _ _ _ _ _ (both equal).0.shown loaded;
    }
