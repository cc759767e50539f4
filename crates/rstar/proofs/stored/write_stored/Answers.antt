use Rattle.std.proofs.Common.{◌≡◌, rules, vec_len}
use Rattle.rstar.proofs.storing.Laws.{one_spelling}
use Rattle.rstar.proofs.storing.Written.{empty_written, tree_written}
use Rattle.rstar.proofs.stored.write_stored.Goals as goal

pub returns-then-is_empty-clause-spelled : goal.returns-then-is_empty-clause-spelled
returns-then-is_empty-clause-spelled g c =
    let none : vec_len c.root-root.result.now.children ≡ 0 = search rules in
    empty_written g.Params.RTreeParams.MAX_SIZE c.args.tree.now c.requires (rw c.root-root.ensures.shown at none) c.in_ok-out.out.items c.size-count.result c.in_ok-out.ensures.spelled (c.size-count.ensures.counted c.requires)

pub returns-then-is_empty-clause-one_spelling : goal.returns-then-is_empty-clause-one_spelling
returns-then-is_empty-clause-one_spelling g c = λ bytes s. one_spelling bytes _ _ s (returns-then-is_empty-clause-spelled g c)

pub returns-clause-spelled : goal.returns-clause-spelled
returns-clause-spelled g c =
    let some : vec_len c.root-root.result.now.children ≡ 0 → ⊥ = λ zero. search rules in
    tree_written g.Params.RTreeParams.MAX_SIZE c.args.tree.now c.requires (rw c.root-root.ensures.shown at some) c.levels-levels.result _ c.levels-levels.ensures c.if-levels-gt63.false (search rules)
    (rw c.root-root.ensures.shown at c.put_parent.ensures.stored) c.in_ok-out-2.out.items _ c.size-count.result c.in_ok-out-2.ensures.spelled (rw c.root-root.ensures.shown at c.put_parent.ensures.put.items) (c.size-count.ensures.counted c.requires) (search rules)

pub returns-clause-one_spelling : goal.returns-clause-one_spelling
returns-clause-one_spelling g c = λ bytes s. one_spelling bytes _ _ s (returns-clause-spelled g c)
