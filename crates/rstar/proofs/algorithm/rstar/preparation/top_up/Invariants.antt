use Rattle.std.proofs.Common.{◌-◌, ◌≤◌, max, vec_len}
use Rattle.std.specs.List.{AllByRecursion}
use Rattle.rstar.specs.inside.ParentBounds.{IsSpare}
use Rattle.rstar.proofs.algorithm.rstar.preparation.top_up.Given as goal

abbrev pub invariant-loop-alloc : goal.invariant-loop-alloc
invariant-loop-alloc g l = record {
  spares : AllByRecursion (IsSpare l.widest) l.spares.items;
  more : vec_len l.initial.spares ≤ vec_len l.spares;
  most : vec_len l.spares ≤ max (vec_len l.initial.spares) l.wanted;
}

abbrev pub decreases-loop-alloc : goal.decreases-loop-alloc
decreases-loop-alloc g l = l.wanted - vec_len l.spares
