use Rattle.rstar.proofs.visiting.Writing.{written_all}
use Rattle.rstar.proofs.rtree.RTree.locate_all_at_point_int_mut.Goals as goal

pub returns-clause-written : goal.returns-clause-written
returns-clause-written g c = written_all _ c.new.ensures.selects c.new.ensures.lawful c.locate_with_selection_function_int_mut.ensures.written
