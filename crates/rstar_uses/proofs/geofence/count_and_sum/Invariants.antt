use Rattle.std.proofs.Common.{◌≡◌, fold}
use Rattle.rstar.specs.Selections.{to_come, IsWalking}
use Rattle.rstar_uses.proofs.Lists.{one-more}
use Rattle.rstar_uses.proofs.geofence.count_and_sum.Given as goal

-- what was told, and then what is still to come, is what there was to tell
abbrev pub invariant-loop-element : goal.invariant-loop-element
invariant-loop-element g l = record {
  walking : IsWalking (λ f e. g.R.Envelope.Envelope.boxes.intersects f.envelope e) l.found;
  told : fold one-more (l.count, l.sum) (to_come (λ f e. g.R.Envelope.Envelope.boxes.intersects f.envelope e) (λ f t. g.R.Envelope.Envelope.boxes.contains f.envelope (g.R.RTreeObject.object.box_of t.0)) l.found)
      ≡ fold one-more (0, 0) (to_come (λ f e. g.R.Envelope.Envelope.boxes.intersects f.envelope e) (λ f t. g.R.Envelope.Envelope.boxes.contains f.envelope (g.R.RTreeObject.object.box_of t.0)) l.initial.found);
}
