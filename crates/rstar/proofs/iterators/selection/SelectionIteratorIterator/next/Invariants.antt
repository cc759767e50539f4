use Rattle.std.proofs.Common.{◌≡◌}
use Rattle.rstar.specs.Selections.{root_walked, question_of}
use Rattle.rstar.specs.inside.Traversals.{slices_of, given_by, HasItsWay, steps_of}
use Rattle.rstar.proofs.iterators.selection.SelectionIteratorIterator.next.Given as goal

-- the same walk, with the same to come
abbrev pub invariant-loop-t : goal.invariant-loop-t
invariant-loop-t g l = record {
  walking : HasItsWay g.Func.Question.accepts l.self;
  same : given_by g.Func.Question.accepts g.Func.Question.selects l.initial.self ≡ given_by g.Func.Question.accepts g.Func.Question.selects l.self;
  root : root_walked l.self ≡ root_walked l.initial.self;
  question : question_of l.self ≡ question_of l.initial.self;
}

abbrev pub decreases-loop-t : goal.decreases-loop-t
decreases-loop-t g l = steps_of (slices_of l.self)
