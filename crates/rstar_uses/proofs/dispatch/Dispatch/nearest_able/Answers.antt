use Rattle.std.proofs.Common.{◌∙◌, to_z-of_z}
use Rattle.std.proofs.lemmas.Result.{IfOk-weaker}
use Rattle.rstar.proofs.searching.InOrder.{begun-left}
use Rattle.rstar_uses.proofs.Able.{begun-at, told-at}
use Rattle.rstar_uses.proofs.Vehicles.{far}
use Rattle.rstar_uses.proofs.dispatch.Dispatch.nearest_able.Goals as goal

pub returns : goal.returns
returns g c =
    let begun = c.nearest_neighbor_iter_with_distance_2-neighbors.ensures.begun in
    record {
      first = IfOk-weaker c.first_able.result _ _ (λ found first. λ able decides.
          begun-at far able _ c.args.limit _ _ _ _ _ _ (to_z-of_z c.ranges.limit) begun.point (begun-left _ _ _ begun ∙ c.self.view_is) (first able decides)) c.first_able.ensures.first;
      distances = IfOk-weaker c.first_able.result _ _ (λ found told. told-at far (λ n. n.1) (λ n. n.0.now) _ _ found.items begun.point told) c.first_able.ensures.distances;
    }
