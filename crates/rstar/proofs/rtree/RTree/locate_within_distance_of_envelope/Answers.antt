use Rattle.rstar.proofs.selecting.Chains.{all_asked, made_asking}
use Rattle.rstar.proofs.rtree.RTree.locate_within_distance_of_envelope.Goals as goal

pub returns-clause-all : goal.returns-clause-all
returns-clause-all g c = all_asked _ _ c.locate_with_selection_function.result c.new.ensures.lawful c.new.ensures.selects c.locate_with_selection_function.ensures.all

pub returns-clause-made : goal.returns-clause-made
returns-clause-made g c = made_asking _ _ c.locate_with_selection_function.result c.new.ensures.accepts c.locate_with_selection_function.ensures.made
