use Rattle.std.proofs.Common.{map}
use Rattle.rstar_base.specs.Points.{table}
use Rattle.rstar.specs.Trees.{elements_in}
use Rattle.rstar.proofs.commands.Firsts.{stated_total}
use Rattle.rstar.proofs.searching.OneOrder.{only_first_given}
use Rattle.rstar.proofs.rtree.RTree.first_neighbors_by_order.Goals as goal

pub returns-clause-only : goal.returns-clause-only
returns-clause-only g c =
    only_first_given _ (stated_total (λ t. g.T.PointDistance.distances.distance_2 t (table g.T.Envelope.Point.Point.DIMENSIONS (g.T.Envelope.Point.Point.coord c.args.point.now))) g.met.T.Ord.total) (λ found. map (λ n. n.0.now) found.items) (elements_in c.args.self.now) c.args.most c.first_nearest.result c.first_nearest.ensures.first
