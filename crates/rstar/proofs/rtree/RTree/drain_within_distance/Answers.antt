use Rattle.std.proofs.Common.{refl}
use Rattle.std.proofs.lemmas.Result.{IfOk-weaker}
use Rattle.rstar.proofs.rtree.RTree.drain_within_distance.Goals as goal

pub returns : goal.returns
returns g c =
    let drain = c.drain_with_selection_function in (
      (refl, drain.follows.holds, drain.follows.holds-at-none),
      record {
        refused = tt;
        same = drain.ensures.same;
        asked = IfOk-weaker drain.result _ _ (λ it q. record { lawful = rw q c.new.ensures.lawful; asks = rw q c.new.ensures.selects }) drain.ensures.question;
        draining = drain.ensures.draining;
      },
    )
