use Rattle.std.proofs.Common.{◌∙◌, ◌+◌, ap, min, refl}
use Rattle.rstar_base.specs.Counts.{usize_max}
use Rattle.rstar_uses.specs.Numbered.{count_and_sum}
use Rattle.rstar_uses.proofs.Lists.{one-told, all-told}
use Rattle.rstar_uses.proofs.geofence.count_and_sum.Goals as goal

pub loop-element-init : goal.loop-element-init
loop-element-init g c = record { walking = c.in-Ok.ensures.walking; told = refl }

pub loop-element-preserved : goal.loop-element-preserved
loop-element-preserved g c = record {
  walking = c.in-Some.ensures.steps.walking;
  told = one-told _ _ _ _ _ _ _ _ c.loop-element.invariant.told c.in-Some.ensures.steps.gives c.saturating_add-count.ensures (c.saturating_add-sum.ensures ∙ ap (λ t. min (c.loop-element.sum + t.1) usize_max) c.element.view_is);
}

pub returns : goal.returns
returns g c = all-told _ _ _ _ c.loop-element.invariant.told c.in_default-next.ensures.steps.gives.0 ∙ ap count_and_sum c.in-Ok.ensures.all
