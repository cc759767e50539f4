use Rattle.std.proofs.Common.{◌≡◌}
use Rattle.rstar.proofs.removing.Scans.{NoneBehind, Scanned}
use Rattle.rstar.proofs.algorithm.removal.+take.Given as goal

-- the nodes behind were passed over, and all are as they were
abbrev pub invariant-take_among-loop-passed : goal.invariant-take_among-loop-passed
invariant-take_among-loop-passed g l = record {
  scanned : Scanned g.T.Cover.Merges.boxes g.T.Covered.object (g.R.Question.accepts l.func) (g.R.Question.selects l.func) l.initial.children.items l.initial.path l.initial.rest l.path l.rest l.passed;
  behind : NoneBehind g.T.Cover.Merges.boxes g.T.Covered.object (g.R.Question.accepts l.func) (g.R.Question.selects l.func) l.initial.children.items l.initial.path l.passed;
  same : l.children ≡ l.initial.children;
}
