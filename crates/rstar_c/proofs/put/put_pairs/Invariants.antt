use Rattle.std.proofs.Common.{◌≡◌, ◌+◌, map, min, length}
use Rattle.rstar_base.specs.Counts.{usize_max}
use Rattle.rstar_c.specs.Put.{over}
use Rattle.rstar_c.proofs.put.put_pairs.Given as goal

-- the pairs given so far are counted, and their numbers stand in the lists
abbrev pub invariant-loop-one : goal.invariant-loop-one
invariant-loop-one g l = record {
  counted : l.next ≡ min (0 + length l.yielded) usize_max;
  first : l.first ≡ over (map (λ p. p.0.now.1) l.yielded) l.initial.first;
  second : l.second ≡ over (map (λ p. p.1.now.1) l.yielded) l.initial.second;
}
