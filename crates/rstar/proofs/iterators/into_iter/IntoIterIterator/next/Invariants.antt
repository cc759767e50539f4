use Rattle.std.proofs.Common.{◌≡◌, vec_capacity}
use Rattle.rstar.specs.IntoIters.{lists_of, elements_held, HasItsLists}
use Rattle.rstar.proofs.removing.TakenApart.{steps_in}
use Rattle.rstar.proofs.iterators.into_iter.IntoIterIterator.next.Given as goal

-- the same elements
abbrev pub invariant-loop-t : goal.invariant-loop-t
invariant-loop-t g l = record {
  giving : HasItsLists (vec_capacity l.self.path) (lists_of l.self);
  same : elements_held (lists_of l.initial.self) ≡ elements_held (lists_of l.self);
}

abbrev pub decreases-loop-t : goal.decreases-loop-t
decreases-loop-t g l = steps_in (lists_of l.self)
