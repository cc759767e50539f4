use Rattle.std.proofs.Common.{refl, ap, sym}
use Rattle.std.proofs.lemmas.List.{get_or_read_under}
use Rattle.rstar_base.specs.laws.PointLemmas.{array-back}
use Rattle.rstar_base.proofs.point.arrays.ArrayPoint.nth_mut.Goals as goal

pub returns : goal.returns
returns g c =
    let read =
    get_or_read_under c.args.self.now c.args.index g.row.N c.place_in.result.now g.S.Zero.zero
    c.place_in.ensures.value c.requires (sym c.told-self) in (
      (refl, λ _. refl),
      record {
        writes_back = tt;
        value = ap g.S.Number.value read;
        own =
            array-back g.S.Number.value g.S.RTreeNum.of_value g.met.S.RTreeNum.of_value_law
            g.S.Zero.zero g.row.N c.args.self.now c.told-self;
      },
    )
