use Rattle.rstar.proofs.visiting.Visits.{visit_asked}
use Rattle.rstar.proofs.rtree.RTree.locate_all_at_point_int.Goals as goal

pub returns : goal.returns
returns g c = visit_asked _ _ _ c.new.ensures.selects c.new.ensures.lawful c.locate_with_selection_function_int.ensures
