use Rattle.std.proofs.Common.{refl}
use Rattle.rstar.specs.Nodes.{children_of}
use Rattle.rstar.specs.Trees.{IsWholeTree}
use Rattle.rstar.proofs.visiting.Changes.{same-outline, whole-kept}
use Rattle.rstar.proofs.inserting.Insertion.{trees_map}
use Rattle.rstar.proofs.rtree.RTree.locate_with_selection_function_int_mut.Goals as goal

pub returns : goal.returns
unfolding IsWholeTree
returns g c =
    let told = c.select_nodes_mut.ensures.written in let whole = c.requires.whole.root_whole in
    let root = c.select_nodes_mut.ensures.changed whole.height (trees_map (λ p k. tt) (λ t k. tt) whole.height (children_of c.args.self.now.root) whole.below) in
    record {
      written = record {
        last = c.select_nodes_mut.new.visitor;
        within = record { marks = told.marks; same = told.same; selected = told.selected; complete = λ lawful. told.complete (whole, lawful); writes = told.writes };
      };
      outline = same-outline g.T.Envelope.Envelope.boxes g.T.RTreeObject.object whole.height c.args.self.now _ (record { root = root; size = refl; levels = refl; reserve = refl });
      whole = whole-kept g.T.Envelope.Envelope.boxes g.T.RTreeObject.object _ c.args.self.now _ c.requires.whole (record { root = root; size = refl; levels = refl; reserve = refl });
    }
