use Rattle.std.proofs.Common.{pos, ◌≡◌, refl}
use Rattle.rstar_base.specs.Points.{table}
use Rattle.rstar.specs.Lists.{IsNearest}
use Rattle.rstar.specs.Trees.{elements_in, IsWholeTree}
use Rattle.rstar.proofs.removing.Earliest.{earliest-selected}
use Rattle.rstar.proofs.removing.PoppedByOrder.{popped-first, popped-one}
use Rattle.rstar.proofs.removing.Removed.{bag_without, counted_down}
use Rattle.rstar.proofs.rtree.RTree.pop_nearest_neighbor_by_order.Goals as goal

pub returns : goal.returns
unfolding IsWholeTree
returns g c =
    let elements = elements_in c.args.self.now in
    let distances = λ (t : _). g.T.PointDistance.distances.distance_2 t (table g.T.Envelope.Point.Point.DIMENSIONS (g.T.Envelope.Point.Point.coord c.args.point)) in
    let least = g.T.Envelope.Point.Scalar.Number.value c.in-Some.near.1 in
    let near : IsNearest distances elements c.in-Some.near.0.now = rw c.in-Some.is at c.in_ok-near.ensures.nearest in
    let at_least : least ≡ pos (distances c.in-Some.near.0.now) = rw c.in-Some.is at c.in_ok-near.ensures.distance in
    let removes = c.take_earliest.ensures.removes in
    let first = earliest-selected g.met.T.Envelope.Envelope.envelope_laws g.met.T.RTreeObject.object_law g.T.Ord.cmp c.new-func.ensures c.args.self.now.root c.requires.root_whole c.take_earliest.result c.take_earliest.ensures.first in
    record {
      first = popped-first distances elements c.in-Some.near.0.now near least at_least g.met.T.Ord.total c.take_earliest.result first;
      none = popped-one distances elements c.in-Some.near.0.now near least at_least g.met.T.Ord.total c.take_earliest.result first;
      taken = bag_without elements _ _ removes.taken;
      counted = counted_down _ _ _ _ _ c.requires.counted (removes.whole tt).counted removes.taken;
      kept = removes.kept;
      refused = tt;
      few = λ _. refl;
      whole = removes.whole tt;
    }
