use Rattle.std.proofs.Common.{rules, arith, inr, ap, suc, ◌-◌, ◌∙◌, sym, Ok}
use Rattle.rstar.specs.Shown.{shown_root}
use Rattle.rstar.specs.StoredReading.{node_at, root_at}
use Rattle.rstar.proofs.storing.Laws.{levels_read, gives_along, root_by, root_other, root_trailing, root_done, root_empty, root_shows_none}
use Rattle.rstar.proofs.stored.tree_after.Goals as goal

pub returns-then-height-eq0-clause-read : goal.returns-then-height-eq0-clause-read
returns-then-height-eq0-clause-read g c =
    levels_read c.args.count c.args.bytes.now c.in_ok-height.rest.now c.in_ok-height.field-0-0.now 0 (search rules) c.if-height-gt64.false c.if-height-eq0.true
    ∙ root_empty c.args.count _ c.if-count-ne0.false (search rules) ∙ ap Ok (sym (root_shows_none c.default.result.root c.default.ensures.children c.default.ensures.envelope))

pub returns-in_err-root-clause-read : goal.returns-in_err-root-clause-read
unfolding root_at node_at
returns-in_err-root-clause-read g c =
    let high = c.in_ok-height.field-0-0.now in
    gives_along _ _ _ _ (levels_read c.args.count c.args.bytes.now c.in_ok-height.rest.now high (suc (high - 1)) (search rules) c.if-height-gt64.false (omega (arith, c.if-height-eq0.false))) (search rules)

pub returns-then-points-count-clause-read : goal.returns-then-points-count-clause-read
returns-then-points-count-clause-read g c =
    inr (levels_read c.args.count c.args.bytes.now c.in_ok-height.rest.now c.in_ok-height.field-0-0.now _ (search rules) c.if-height-gt64.false (search rules)
    ∙ root_by _ c.args.count c.parent_at.new.points c.in_ok-height.rest.now c.in_ok-root.rest.now c.in_ok-root.root c.in_ok-root.ensures.read c.in_ok-root.ensures.points
    ∙ root_other c.parent_at.new.points c.args.count _ _ c.if-points-count.true)

pub returns-then-not-is_empty-2-clause-read : goal.returns-then-not-is_empty-2-clause-read
returns-then-not-is_empty-2-clause-read g c =
    inr (levels_read c.args.count c.args.bytes.now c.in_ok-height.rest.now c.in_ok-height.field-0-0.now _ (search rules) c.if-height-gt64.false (search rules)
    ∙ root_by _ c.args.count c.parent_at.new.points c.in_ok-height.rest.now c.in_ok-root.rest.now c.in_ok-root.root c.in_ok-root.ensures.read c.in_ok-root.ensures.points
    ∙ root_trailing c.parent_at.new.points c.args.count _ c.in_ok-root.rest.now (search rules) (search rules))

pub returns-clause-read : goal.returns-clause-read
returns-clause-read g c =
    levels_read c.args.count c.args.bytes.now c.in_ok-height.rest.now c.in_ok-height.field-0-0.now _ (search rules) c.if-height-gt64.false (search rules)
    ∙ root_by _ c.args.count c.parent_at.new.points c.in_ok-height.rest.now c.in_ok-root.rest.now c.in_ok-root.root c.in_ok-root.ensures.read c.in_ok-root.ensures.points
    ∙ root_done c.parent_at.new.points c.args.count _ c.in_ok-root.rest.now (search rules) (search rules) ∙ ap (λ root. Ok (shown_root root)) (sym c.from_root.ensures.root)
