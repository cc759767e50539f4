use Rattle.std.proofs.Common.{rules}
use Rattle.rstar.specs.Selections.{to_come, IsWalking}
use Rattle.rstar.proofs.selecting.Traversals.{leaf-stepped, back-stepped}
use Rattle.rstar.proofs.iterators.selection.SelectionIteratorIterator.next.Goals as goal

pub returns-then-should_unpack_leaf : goal.returns-then-should_unpack_leaf
unfolding to_come IsWalking
returns-then-should_unpack_leaf g c =
    let it = c.loop-t in let leaf = c.in-Some-Leaf-default in let says = c.if-should_unpack_leaf.ensures in
    let step = leaf-stepped g.Func.Question.accepts g.Func.Question.selects it.self leaf.rest leaf.ensures.cases.0 leaf.field-0-0-is leaf.t-is says it.invariant.walking in search rules

pub loop-t-smaller-else-should_unpack_leaf : goal.loop-t-smaller-else-should_unpack_leaf
loop-t-smaller-else-should_unpack_leaf g c =
    let it = c.loop-t in let leaf = c.in-Some-Leaf-default in let says = c.if-should_unpack_leaf.ensures in
    (leaf-stepped g.Func.Question.accepts g.Func.Question.selects it.self leaf.rest leaf.ensures.cases.0 leaf.field-0-0-is leaf.t-is says it.invariant.walking).nearer

pub loop-t-preserved-else-should_unpack_leaf : goal.loop-t-preserved-else-should_unpack_leaf
loop-t-preserved-else-should_unpack_leaf g c =
    let it = c.loop-t in let leaf = c.in-Some-Leaf-default in let says = c.if-should_unpack_leaf.ensures in
    let step = leaf-stepped g.Func.Question.accepts g.Func.Question.selects it.self leaf.rest leaf.ensures.cases.0 leaf.field-0-0-is leaf.t-is says it.invariant.walking in search rules

pub loop-t-smaller : goal.loop-t-smaller
loop-t-smaller g c =
    let it = c.loop-t in
    (back-stepped g.Func.Question.accepts g.Func.Question.selects it.self c.pop.new.self c.in_ok-self-in-None.ensures.some c.pop.ensures.capacity c.in-None.ensures.cases it.invariant.walking).nearer

pub loop-t-preserved : goal.loop-t-preserved
loop-t-preserved g c =
    let it = c.loop-t in
    let step = back-stepped g.Func.Question.accepts g.Func.Question.selects it.self c.pop.new.self c.in_ok-self-in-None.ensures.some c.pop.ensures.capacity c.in-None.ensures.cases it.invariant.walking in search rules
