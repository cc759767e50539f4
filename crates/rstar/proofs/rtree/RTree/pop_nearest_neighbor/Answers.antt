use Rattle.rstar_base.specs.Points.{table}
use Rattle.rstar.specs.Trees.{elements_in, IsWholeTree}
use Rattle.rstar.proofs.removing.PoppedByOrder.{popped-nearest, popped-some}
use Rattle.rstar.proofs.removing.Removed.{some_asked, none_asked}
use Rattle.rstar.proofs.rtree.RTree.pop_nearest_neighbor.Goals as goal

pub returns-clause-nearest : goal.returns-clause-nearest
unfolding IsWholeTree
returns-clause-nearest g c =
    popped-nearest (λ t. g.T.PointDistance.distances.distance_2 t (table g.T.Envelope.Point.Point.DIMENSIONS (g.T.Envelope.Point.Point.coord c.args.point))) (elements_in c.args.self.now) c.in-Some.found.0.now
    (rw c.in-Some.is at c.in_ok-found.ensures.nearest) (g.T.Envelope.Point.Scalar.Number.value c.in-Some.found.1) (rw c.in-Some.is at c.in_ok-found.ensures.distance)
    c.remove_with_selection_function.result (elements_in c.remove_with_selection_function.new.self) c.remove_with_selection_function.ensures.taken
    (some_asked c.remove_with_selection_function.result c.new-func.ensures.selects c.remove_with_selection_function.ensures.selected)

pub returns-clause-none : goal.returns-clause-none
unfolding IsWholeTree
returns-clause-none g c =
    popped-some (λ t. g.T.PointDistance.distances.distance_2 t (table g.T.Envelope.Point.Point.DIMENSIONS (g.T.Envelope.Point.Point.coord c.args.point))) (elements_in c.args.self.now) c.in-Some.found.0.now
    (rw c.in-Some.is at c.in_ok-found.ensures.nearest) (g.T.Envelope.Point.Scalar.Number.value c.in-Some.found.1) (rw c.in-Some.is at c.in_ok-found.ensures.distance)
    c.remove_with_selection_function.result (none_asked _ c.remove_with_selection_function.result c.new-func.ensures.lawful c.new-func.ensures.selects c.remove_with_selection_function.ensures.none)
