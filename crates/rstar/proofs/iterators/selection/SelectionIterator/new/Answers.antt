use Rattle.std.proofs.Common.{◌∙◌, ◌+◌, sym, refl, ap, subst, arith}
use Rattle.std.specs.Prelude.{◌≤◌}
use Rattle.std.specs.List.{AllByRecursion}
use Rattle.rstar.specs.Nodes.{children_of, envelope_of, all_reach, IsInner, IsElement}
use Rattle.rstar.specs.Selections.{IsWalking, to_come}
use Rattle.rstar.specs.inside.Traversals.{IsLevel}
use Rattle.rstar.proofs.trees.Heights.{levels_are}
use Rattle.rstar.proofs.selecting.Complete.{gives_none}
use Rattle.rstar.proofs.selecting.Traversals.{all-level, way-start, reach-asked, reach-none}
use Rattle.rstar.proofs.iterators.selection.SelectionIterator.new.Goals as goal

pub returns-then-not-enters-clause-walking : goal.returns-then-not-enters-clause-walking
unfolding IsWalking
returns-then-not-enters-clause-walking g c =
    let accepts = g.Func.Question.accepts c.args.func in
    let none = reach-none accepts (envelope_of c.args.root.now) _ (c.enters.ensures.refused c.if-not-enters.true) in
    way-start accepts c.args.root.now c.in_ok-path.path.items _ _ 0 0 c.in_ok-path.ensures.empty tt (omega arith) (omega arith) (sym none)

pub returns-then-not-enters-clause-gives : goal.returns-then-not-enters-clause-gives
unfolding to_come
returns-then-not-enters-clause-gives g c =
    rw c.in_ok-path.ensures.empty (sym (gives_none (g.Func.Question.accepts c.args.func) (g.Func.Question.selects c.args.func) c.args.root.now (c.enters.ensures.refused c.if-not-enters.true)))

pub returns-clause-walking : goal.returns-clause-walking
unfolding IsWalking
returns-clause-walking g c =
    let v = g.T.Cover.Merges.boxes in let o = g.T.Covered.object in let accepts = g.Func.Question.accepts c.args.func in
    let root = c.args.root.now in let h = c.requires.whole.height in
    let entered = c.enters.ensures.entered c.if-not-enters.false in let value = c.as_slice.ensures.value in
    let deep = c.requires.levels ∙ levels_are (IsInner v o) (IsElement v o) (λ p q. q.1) h (children_of root) entered.0 c.requires.whole.below in
    way-start accepts root c.in_ok-path.path.items c.as_slice.result _ h 1 c.in_ok-path.ensures.empty
    (subst (AllByRecursion (IsLevel h)) (sym value) (all-level v o h (children_of root) c.requires.whole.below))
    (subst (λ n. n ≤ c.in_ok-path.path.capacity) deep c.in_ok-path.ensures.room) (omega arith)
    (ap (λ ns. 1 + all_reach accepts ns) value ∙ sym (reach-asked accepts (envelope_of root) (children_of root) entered.0 entered.1))

pub returns-clause-made : goal.returns-clause-made
returns-clause-made g c =
    let root = c.args.root.now in let entered = c.enters.ensures.entered c.if-not-enters.false in
    let asked = reach-asked (g.Func.Question.accepts c.args.func) (envelope_of root) (children_of root) entered.0 entered.1 in
    record { root = refl; question = refl; opened = omega arith; at_most = omega arith }
