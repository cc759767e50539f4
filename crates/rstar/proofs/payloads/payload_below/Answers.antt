use Rattle.std.proofs.Common.{◌≡◌, ◌∙◌, refl, ap, subst}
use Rattle.rstar_base.specs.Points.{table}
use Rattle.rstar_base.specs.Elements.{carried_distances}
use Rattle.rstar.specs.Nodes.{layer_of}
use Rattle.rstar.specs.inside.WaysDown.{way_to, with_child, child_at, change_at}
use Rattle.rstar.specs.Payloads.{with_data, IsAtPayload}
use Rattle.rstar.proofs.visiting.WaysDown.{put_changes}
use Rattle.rstar.proofs.payloads.payload_below.Goals as goal

pub returns : goal.returns
returns g c =
    let way = way_to g.R.Envelope.Envelope.boxes (carried_distances g.R.PointDistance.distances (λ t. t.0)) (table g.R.Envelope.Point.Point.DIMENSIONS (g.R.Envelope.Point.Point.coord c.args.point.now)) in
    let p = c.args.parent.now in
    let n = c.child_of.result.now in
    let t = c.element_with.result.now in
    let at = c.element_with.ensures.value in
    let child : n ≡ child_at p (way p) = c.child_of.ensures.value ∙ ap (child_at p) c.requires.begins in (
      (
        refl,
        λ w. ap (with_child p c.args.index) (put_changes way (with_data w) c.args.depth (layer_of n) t at)
            ∙ ap (λ i. with_child p i (change_at way (with_data w) c.args.depth (layer_of n))) c.requires.begins
            ∙ ap (λ m. with_child p (way p) (change_at way (with_data w) c.args.depth (layer_of m))) child,
      ),
      record {
        writes_back = tt;
        value = subst (λ m. IsAtPayload way c.args.depth (layer_of m) c.data_of.result.now) child (t.0, rw c.data_of.ensures.value at);
      },
    )
