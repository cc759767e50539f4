use Rattle.std.proofs.Common.{◌-◌, [], length, drop, take, refl, arith}
use Rattle.std.specs.Prelude.{codes}
use Rattle.std.proofs.lemmas.Result.{on_ok_weaker}
use Rattle.rstar_run.proofs.Prints.{at_first, more, last, some_more, first_item, next_item, no_item}
use Rattle.rstar_run.proofs.answers.print_list.Goals as goal

pub returns-in_err-print-in-len1-up-clause-front : goal.returns-in_err-print-in-len1-up-clause-front
returns-in_err-print-in-len1-up-clause-front g c =
    some_more _ _ (at_first _ _ _) (first_item g.T.Listed.text_of c.args.items.now c.first-item.result c.first-item.is (omega (arith, c.in-len1-up.len_at_least))) c.print.ensures.front

pub loop-item-init : goal.loop-item-init
loop-item-init g c =
    more _ (at_first _ _ _) (first_item g.T.Listed.text_of c.args.items.now c.first-item.result c.first-item.is (omega (arith, c.in-len1-up.len_at_least))) c.in_ok-print-in-len1-up.ensures.all

pub returns-in_err-put-in-len1-up-clause-front : goal.returns-in_err-put-in-len1-up-clause-front
returns-in_err-put-in-len1-up-clause-front g c =
    let ns = take (length c.args.items.now - 1) (drop 1 c.args.items.now) in
    some_more (codes " ") _ c.loop-item.invariant (next_item g.T.Listed.text_of ns c.loop-item.item-index c.item-item.result c.item-item.is c.loop-item-test.true) c.put-in-loop-item.ensures.front

pub returns-in_err-print-in-len1-up-2-clause-front : goal.returns-in_err-print-in-len1-up-2-clause-front
returns-in_err-print-in-len1-up-2-clause-front g c =
    let ns = take (length c.args.items.now - 1) (drop 1 c.args.items.now) in
    let spaced = more _ c.loop-item.invariant (next_item g.T.Listed.text_of ns c.loop-item.item-index c.item-item.result c.item-item.is c.loop-item-test.true) c.in_ok-put-in-len1-up.ensures.all in
    some_more _ _ spaced refl c.print-in-loop-item.ensures.front

pub loop-item-preserved : goal.loop-item-preserved
loop-item-preserved g c =
    let ns = take (length c.args.items.now - 1) (drop 1 c.args.items.now) in
    let spaced = more _ c.loop-item.invariant (next_item g.T.Listed.text_of ns c.loop-item.item-index c.item-item.result c.item-item.is c.loop-item-test.true) c.in_ok-put-in-len1-up.ensures.all in
    more _ spaced refl c.in_ok-print-in-len1-up-2.ensures.all

pub returns-after-loop-item-clause-all : goal.returns-after-loop-item-clause-all
returns-after-loop-item-clause-all g c =
    let ns = take (length c.args.items.now - 1) (drop 1 c.args.items.now) in
    on_ok_weaker c.put-in-len1-up.result (λ p. last c.loop-item.invariant (no_item g.T.Listed.text_of ns c.loop-item.item-index c.loop-item-test.false) p) c.put-in-len1-up.ensures.all

pub returns-after-loop-item-clause-front : goal.returns-after-loop-item-clause-front
returns-after-loop-item-clause-front g c =
    let ns = take (length c.args.items.now - 1) (drop 1 c.args.items.now) in
    some_more (codes "\n") [] c.loop-item.invariant (no_item g.T.Listed.text_of ns c.loop-item.item-index c.loop-item-test.false) c.put-in-len1-up.ensures.front
