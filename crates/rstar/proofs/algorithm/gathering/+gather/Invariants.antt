use Rattle.std.proofs.Common.{◌≡◌, vec_capacity}
use Rattle.rstar.proofs.removing.Gathered.{Gathering}
use Rattle.rstar.proofs.algorithm.gathering.+gather.Given as goal

-- the nodes behind were looked at, and those in front are as they were
abbrev pub invariant-gather_among-loop-i : goal.invariant-gather_among-loop-i
invariant-gather_among-loop-i g l = record {
  gathering : Gathering g.T.Cover.Merges.boxes g.T.Covered.object (g.R.Question.accepts l.func) (g.R.Question.selects l.func) l.most l.initial.children.items l.initial.taken.items l.children.items l.taken.items l.i;
  capacity : vec_capacity l.taken ≡ vec_capacity l.initial.taken;
}
