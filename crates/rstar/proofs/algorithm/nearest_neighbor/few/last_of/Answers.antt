use Rattle.std.proofs.Common.{◌≤ℤ◌, subst, refl, arith}
use Rattle.std.proofs.lemmas.Int.{ints}
use Rattle.rstar.proofs.searching.Few.{last-among, last-is, all-nearer}
use Rattle.rstar.proofs.searching.SearchTurns.{order_of}
use Rattle.rstar.proofs.algorithm.nearest_neighbor.few.last_of.Goals as goal

pub returns-in-Some-clause-last : goal.returns-in-Some-clause-last
returns-in-Some-clause-last g c =
    let us = c.args.found.now in
    let last = c.in-Some.last.now in
    let value = g.S.SquaredDistance.number in
    let order = order_of g.S.SquaredDistance.number g.S.Ord.cmp _ g.met.S.Ord.matches_partial_cmp g.met.S.SquaredDistance.number_order in
    record {
      full = omega arith;
      last = last;
      among = last-among us last c.in-Some.ensures.value;
      at = refl;
      within = all-nearer value g.S.Ord.cmp g.E.TieOrder.order order us last.distance c.requires
          (λ front end at. subst (λ w. value w.distance ≤ℤ value last.distance) (last-is us front end last c.in-Some.ensures.value at) (omega (arith, ints)));
    }
