use Rattle.std.proofs.Common.{◌∙◌, ap, sym, ℤ, pos}
use Rattle.rstar_base.specs.laws.PointLemmas.{table-get}
use Rattle.rstar_base.proofs.object.AnyRTreeObject.axis_key.Goals as goal

pub returns : goal.returns
returns g c =
    let k = g.P.Point.coord in
    c.nth.ensures.value
    ∙ sym (ap (λ (x : ℤ × ℤ). x.0) (table-get g.P.Point.DIMENSIONS (λ i. (k c.args.self.now i, k c.args.self.now i)) c.args.axis (pos 0, pos 0) c.requires))
