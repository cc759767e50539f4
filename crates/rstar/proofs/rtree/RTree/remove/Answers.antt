use Rattle.rstar.proofs.removing.Removed.{some_asked, none_asked}
use Rattle.rstar.proofs.rtree.RTree.remove.Goals as goal

pub returns-clause-equal : goal.returns-clause-equal
returns-clause-equal g c = some_asked c.remove_with_selection_function.result c.new.ensures.selects c.remove_with_selection_function.ensures.selected

pub returns-clause-none : goal.returns-clause-none
returns-clause-none g c = none_asked _ c.remove_with_selection_function.result c.new.ensures.lawful c.new.ensures.selects c.remove_with_selection_function.ensures.none
