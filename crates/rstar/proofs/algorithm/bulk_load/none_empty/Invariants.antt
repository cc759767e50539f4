use Rattle.std.proofs.Common.{ℕ, ◌<◌, ◌≡◌, false, slice_index_or}
use Rattle.rstar.proofs.algorithm.bulk_load.none_empty.Given as goal

-- those so far have envelopes that are not empty
abbrev pub invariant-loop-element : goal.invariant-loop-element
invariant-loop-element g l = (i : ℕ) (d : _) → i < l.element-index
    → g.T.Envelope.Envelope.boxes.is_empty (g.T.RTreeObject.object.box_of (slice_index_or l.elements i d)) ≡ false
