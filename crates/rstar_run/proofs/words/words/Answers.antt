use Rattle.std.proofs.Common.{rules, ◌∙◌, ap, length, sym}
use Rattle.std.specs.Prelude.{not, ◌==◌, filter}
use borrow.Author.Tests.{tests}
use Rattle.std.proofs.lemmas.Iterator.Consumers.{YieldsList-end, YieldsList-turn, YieldsList-so_far}
use Rattle.std.proofs.lemmas.Iterator.Splits.{YieldsList-from_slice_split}
use Rattle.rstar_run.proofs.Pieces.{more_words}
use Rattle.rstar_run.proofs.words.words.Goals as goal

pub returns-clause-found : goal.returns-clause-found
returns-clause-found c =
    let end = YieldsList-end (YieldsList-from_slice_split _ (λ byte. byte == 32) c.args.text.now (cc) (cc) (cc) (λ x r q k. search (rules, tests)))
    c.loop-word.yielded _ c.loop-word.yielded_by _ _ c.in-None.is c.next.ensures.steps in
    c.loop-word.invariant ∙ ap (filter (λ word. not (length word == 0))) end.0

pub returns-then-is_full-clause-none : goal.returns-then-is_full-clause-none
returns-then-is_full-clause-none c =
    let pieces = YieldsList-from_slice_split _ (λ byte. byte == 32) c.args.text.now (cc) (cc) (cc) (λ x r q k. search (rules, tests)) in
    let so_far = YieldsList-so_far pieces c.loop-word.yielded _ c.loop-word.yielded_by in
    let turn = YieldsList-turn pieces c.loop-word.yielded _ c.loop-word.yielded_by _ _ _ c.in-Some.is c.next.ensures.steps in
    more_words c.args.text.now c.loop-word.words.items (length c.loop-word.yielded) 8 c.in-Some.word.now
    (c.loop-word.invariant ∙ ap (filter (λ word. not (length word == 0))) so_far) turn.0 turn.1
    (sym c.is_empty.ensures ∙ c.if-not-is_empty.true) (sym c.is_full.ensures.value ∙ c.if-is_full.true)
