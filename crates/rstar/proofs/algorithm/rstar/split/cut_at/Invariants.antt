use Rattle.std.proofs.Common.{◌≡◌, ◌+◌, ◌≤◌, ◌++◌, vec_len, vec_capacity, reverse}
use Rattle.rstar.proofs.algorithm.rstar.split.cut_at.Given as goal

abbrev pub invariant-loop-list : goal.invariant-loop-list
invariant-loop-list g l = record {
  same : l.initial.list.items ≡ l.list.items ++ reverse l.spare.items;
  long : l.at ≤ vec_len l.list;
  lengths : vec_len l.list + vec_len l.spare ≡ vec_len l.initial.list;
  list_capacity : vec_capacity l.list ≡ vec_capacity l.initial.list;
  spare_capacity : vec_capacity l.initial.spare ≤ vec_capacity l.spare;
}

abbrev pub decreases-loop-list : goal.decreases-loop-list
decreases-loop-list g l = vec_len l.list
