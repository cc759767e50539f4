use Rattle.rstar.specs.Trees.{IsWholeTree}
use Rattle.rstar.proofs.rtree.RTree.locate_with_selection_function_int.Goals as goal

pub returns : goal.returns
unfolding IsWholeTree
returns g c =
    let told = c.select_nodes.ensures in let whole = c.requires.whole.root_whole in
    record {
      last = c.select_nodes.new.visitor;
      within = record { visited = told.visited; part = told.part; complete = λ lawful. told.complete (whole, lawful); visits = told.visits };
    }
