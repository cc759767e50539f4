use Rattle.std.proofs.Common.{Bool, ◌∙◌, ◌≡◌, ◌++◌, ◌∷◌, ◌<◌, [], false, refl, sym, ap, subst, length, length-append, arith, Ok, List, append-nil}
use Rattle.std.proofs.lemmas.List.Elements.{All-nil, All-cons, All-append}
use Rattle.std.specs.Prelude.{All}
use Rattle.std.specs.Global.{Vec}
use Rattle.rstar_run.specs.Grammar.{entry_of, IsFilled}
use Rattle.rstar_run.specs.Items.{Item, questions}
use Rattle.rstar_run.specs.Runs.{IsEntry}
use Rattle.rstar_run.specs.Words.{words_of}
use Rattle.rstar_run.specs.declared.stops.Stop.TheVariants as stop
use Rattle.rstar_run.proofs.Prints.{nothing, prints_both}
use Rattle.rstar_run.proofs.Loads.{takes_none, takes_entry, load_ends, load_bad, stopped_after}
use Rattle.rstar_run.proofs.program.read_load.Goals.{in-Blank, in-Item+in_ok-push-in-Item}
use Rattle.rstar_run.proofs.program.read_load.Goals as goal

pub loop-init : goal.loop-init
loop-init g c = record {
  took = takes_none _ _ _ c.new-items.ensures.items;
  shown = nothing _ _;
  filled = subst (λ (l : List Item). All (λ t. questions.is_empty (questions.box_of t) ≡ false) l) (sym c.new-items.ensures.items) (All-nil _);
  few = omega (arith, ap length c.new-items.ensures.items);
}

pub returns-then-len-count-clause-load : goal.returns-then-len-count-clause-load
returns-then-len-count-clause-load g c = (c.loop.invariant.took, omega (arith, c.len.ensures, c.loop.items.ok.0, c.if-len-count.true))

pub returns-then-len-count-clause-filled : goal.returns-then-len-count-clause-filled
returns-then-len-count-clause-filled g c = c.loop.invariant.filled

pub returns-then-len-count-clause-shown : goal.returns-then-len-count-clause-shown
returns-then-len-count-clause-shown g c = c.loop.invariant.shown

pub returns-in_err-next_line-clause-shown : goal.returns-in_err-next_line-clause-shown
returns-in_err-next_line-clause-shown g c = stopped_after Bool (Vec Item) (g.W.Write.contents c.args.output.now) (g.W.Write.contents c.loop.output) (g.W.Write.contents c.next_line.new.output) c.args.printer.now.held.items c.loop.printer.held.items c.next_line.new.printer.held.items c.loop.invariant.shown c.in_err-next_line.field-0.0 c.in_err-next_line.ensures.shown c.from_residual.result c.from_residual.ensures.1

pub returns-then-not-branch-clause-load : goal.returns-then-not-branch-clause-load
returns-then-not-branch-clause-load g c =
    (_, load_ends c.loop.invariant.took c.args.count c.number.result (let few = c.loop.invariant.few in omega (arith, few, c.len.ensures, c.loop.items.ok.0, c.if-len-count.false)) (c.next_line.ensures.end (c.in_ok-next_line.was ∙ ap Ok c.if-not-branch.true)) (c.number.ensures ∙ c.in_ok-next_line.ensures.number))

pub returns-then-not-branch-clause-shown : goal.returns-then-not-branch-clause-shown
returns-then-not-branch-clause-shown g c = prints_both c.loop.invariant.shown c.in_ok-next_line.ensures.shown

pub returns-in_err-push-in-Item-clause-shown : goal.returns-in_err-push-in-Item-clause-shown
returns-in_err-push-in-Item-clause-shown g c = stopped_after Bool (Vec Item) (g.W.Write.contents c.args.output.now) (g.W.Write.contents c.loop.output) (g.W.Write.contents c.next_line.new.output) c.args.printer.now.held.items c.loop.printer.held.items c.next_line.new.printer.held.items c.loop.invariant.shown stop.Memory c.in_ok-next_line.ensures.shown c.from_residual-in_err-push-in-Item.result c.from_residual-in_err-push-in-Item.ensures.1

pub returns-in-Bad-clause-load : goal.returns-in-Bad-clause-load
returns-in-Bad-clause-load g c =
    (_, load_bad c.loop.invariant.took _ c.args.count c.number-in-Bad.result c.next_line.new.lines.line.items (let few = c.loop.invariant.few in omega (arith, few, c.len.ensures, c.loop.items.ok.0, c.if-len-count.false)) (c.next_line.ensures.line (c.in_ok-next_line.was ∙ ap Ok c.if-not-branch.false)) (sym (c.parse_entry.ensures.is ∙ ap (λ t. entry_of (words_of t)) c.text.ensures) ∙ c.in-Bad.is) (c.number-in-Bad.ensures ∙ c.in_ok-next_line.ensures.number))

pub returns-in-Bad-clause-shown : goal.returns-in-Bad-clause-shown
returns-in-Bad-clause-shown g c = prints_both c.loop.invariant.shown c.in_ok-next_line.ensures.shown

pub loop-preserved : goal.loop-preserved
loop-preserved g c =
    let so_far = c.loop.invariant in
    let line = c.next_line.new.lines.line.items in
    let taken = (c.next_line.ensures.line (c.in_ok-next_line.was ∙ ap Ok c.if-not-branch.false)) in
    let shown = prints_both so_far.shown c.in_ok-next_line.ensures.shown in
    let few : length c.loop.items.items < c.args.count = let few = so_far.few in omega (arith, few, c.len.ensures, c.loop.items.ok.0, c.if-len-count.false) in
    let means = sym (c.parse_entry.ensures.is ∙ ap (λ t. entry_of (words_of t)) c.text.ensures) in
    elim c.match-parse_entry.branch [
      | in-Blank w ↦
          let entry = subst (λ e. IsEntry e []) (sym (means ∙ w.in-Blank.is)) refl in
          let took = takes_entry so_far.took _ c.next_line.new.lines.number line [] taken c.in_ok-next_line.ensures.number entry in
          let same : c.loop.items.items ++ [] ≡ c.match-parse_entry.items.items = append-nil _ ∙ ap (λ v. v.items) (sym w.items-is) in
          record { took = rw (← same) took; shown = shown; filled = rw (← same) (rw append-nil so_far.filled); few = rw w.items-is so_far.few }
      | in-Item+in_ok-push-in-Item w ↦
          let item = w.in-Item.item in
          let entry = subst (λ e. IsEntry e (item ∷ [])) (sym (means ∙ w.in-Item.is)) refl in
          let took = takes_entry so_far.took _ c.next_line.new.lines.number line (item ∷ []) taken c.in_ok-next_line.ensures.number entry in
          let same : c.loop.items.items ++ item ∷ [] ≡ c.match-parse_entry.items.items = sym (ap (λ v. v.items) w.items-is ∙ w.in_ok-push-in-Item.ensures.items) in
          let filled = All-append (λ t. questions.is_empty (questions.box_of t) ≡ false) c.loop.items.items (item ∷ []) so_far.filled (All-cons (λ t. questions.is_empty (questions.box_of t) ≡ false) item [] (subst IsFilled w.in-Item.is c.parse_entry.ensures.filled) (All-nil (λ t. questions.is_empty (questions.box_of t) ≡ false))) in
          record { took = rw (← same) took; shown = shown; filled = rw (← same) filled; few = omega (arith, few, ap length same, length-append c.loop.items.items (item ∷ [])) }
    ]

pub returns-clause-shown : goal.returns-clause-shown
returns-clause-shown g c = c.loop.invariant.shown
