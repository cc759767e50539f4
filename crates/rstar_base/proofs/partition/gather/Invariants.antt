use Rattle.std.proofs.Common.{◌-◌, IsPermutation, length}
use Rattle.rstar_base.specs.Slabs.{IsAroundSoFar}
use Rattle.rstar_base.proofs.partition.gather.Given as goal

abbrev pub invariant-loop-at : goal.invariant-loop-at
invariant-loop-at g l = record {
  same : IsPermutation l.initial.list l.list;
  around : IsAroundSoFar (λ t. g.T.Envelope.Envelope.boxes.axis_key (g.T.RTreeObject.object.box_of t) l.axis) (g.T.Envelope.Point.Scalar.Number.value l.pivot) l.less l.at l.list;
}

abbrev pub decreases-loop-at : goal.decreases-loop-at
decreases-loop-at g l = length l.list - l.at
