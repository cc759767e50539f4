use Rattle.std.proofs.Common.{◌≡◌, ◌≤◌, ◌<◌, ◌-◌, ◌≤ℤ◌, ℕ, length, slice_index_or, true, false}
use Rattle.rstar_base.proofs.partition.run_end.Given as goal

-- every element from the first place of the run up to here stands where it belongs
abbrev pub invariant-loop-at : goal.invariant-loop-at
invariant-loop-at g l = record {
  order : l.from ≤ l.at;
  within : l.at ≤ length l.list;
  at_most : l.first ≡ true → (i : ℕ) (d : g.row.T.Denot) → l.from ≤ i → i < l.at
      → g.T.Envelope.Envelope.boxes.axis_key (g.T.RTreeObject.object.box_of (slice_index_or l.list i d)) l.axis ≤ℤ g.T.Envelope.Point.Scalar.Number.value l.pivot;
  at_least : l.first ≡ false → (i : ℕ) (d : g.row.T.Denot) → l.from ≤ i → i < l.at
      → g.T.Envelope.Point.Scalar.Number.value l.pivot ≤ℤ g.T.Envelope.Envelope.boxes.axis_key (g.T.RTreeObject.object.box_of (slice_index_or l.list i d)) l.axis;
}

abbrev pub decreases-loop-at : goal.decreases-loop-at
decreases-loop-at g l = length l.list - l.at
