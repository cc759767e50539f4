use Rattle.std.proofs.Common.{ap, length, refl, arith}
use Rattle.rstar.specs.Joins.{meets_by}
use Rattle.rstar.proofs.joining.SelfPairs.{advanced, gave}
use Rattle.rstar.proofs.iterators.joins.selves.SelfIntersectionIteratorIterator.next.Goals as goal

pub returns-in-Some-clause-steps : goal.returns-in-Some-clause-steps
returns-in-Some-clause-steps g c =
    gave g.T.Cover.Merges.boxes g.T.Covered.object (meets_by g.T.Cover.Merges.boxes g.T.Meets.seen) c.args.self.now c.loop-pair.self _ c.in-Some.pair
    c.loop-pair.invariant.root c.loop-pair.invariant.same refl refl refl c.loop-pair.invariant.lists c.in-Some.ensures

pub returns-in-Some-clause-goes : goal.returns-in-Some-clause-goes
returns-in-Some-clause-goes g c =
    let step = returns-in-Some-clause-steps g c in let long = ap length step.gives in
    record { on = λ _. (step.joining, tt, omega (arith, long)); keeps = step.joining; rests = λ _. tt }

pub enter-requires-clause-lists : goal.enter-requires-clause-lists
enter-requires-clause-lists g c =
    advanced g.T.Cover.Merges.boxes g.T.Covered.object (meets_by g.T.Cover.Merges.boxes g.T.Meets.seen) c.loop-pair.self _ refl refl refl c.loop-pair.invariant.lists c.advance.ensures.on
