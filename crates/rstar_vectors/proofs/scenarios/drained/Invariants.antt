use Rattle.std.specs.Iterator.{size, IsFinite, Yields}
use Rattle.rstar_vectors.proofs.scenarios.drained.Given as goal

abbrev pub invariant-loop-item : goal.invariant-loop-item
invariant-loop-item g l = record {
  can : g.I.Iterator.can_next l.items;
  ends : IsFinite (g.I.Iterator.remaining l.items);
  given : Yields g.I.Iterator.next_gives l.initial.items l.all.items l.items;
}

abbrev pub decreases-loop-item : goal.decreases-loop-item
decreases-loop-item g l = size (g.I.Iterator.remaining l.items)
