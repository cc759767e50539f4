use Rattle.std.proofs.Common.{Bool, ◌≡◌, ◌∙◌, ◌∷◌, ◌++◌, [], refl, sym, ap, subst, arith, Ok, codes, decimal}
use Rattle.std.specs.Global.{Vec}
use Rattle.rstar.specs.declared.replay.Command.TheVariants as command
use Rattle.rstar_run.specs.Items.{Item}
use Rattle.rstar_run.specs.Grammar.{line_of}
use Rattle.rstar_run.specs.Words.{words_of}
use Rattle.rstar_run.specs.Lines.{bytes_left}
use Rattle.rstar_run.specs.Runs.{BreaksAt, LineSays, StepSays}
use Rattle.rstar_run.proofs.Prints.{prints_both}
use Rattle.rstar_run.proofs.Runs.{stopped, said_all, said_some, load_stopped}
use Rattle.rstar_run.proofs.program.answer_next.Goals as goal

pub returns-in_err-next_line : goal.returns-in_err-next_line
returns-in_err-next_line g c =
    stopped _ _ _ _ _ _ _ _ _ _ Bool c.in_err-next_line.field-0.0 c.in_err-next_line.ensures.stop c.in_err-next_line.ensures.shown c.from_residual.result c.from_residual.ensures.1

pub returns-then-not-branch : goal.returns-then-not-branch
returns-then-not-branch g c = (c.next_line.ensures.end (c.in_ok-next_line.was ∙ ap Ok c.if-not-branch.true), refl, c.in_ok-next_line.ensures.shown)

pub returns-in-Blank : goal.returns-in-Blank
returns-in-Blank g c =
    let bytes = c.next_line.new.lines.line.items in
    let means = sym (c.parse_line.ensures.is ∙ ap (λ t. line_of (words_of t)) c.text.ensures) ∙ c.in-Blank.is in
    let took = c.next_line.ensures.line (c.in_ok-next_line.was ∙ ap Ok c.if-not-branch.false) in (
      [],
      record { lines = bytes ∷ []; taken = (_, took, refl); count = c.in_ok-next_line.ensures.number; says = subst (λ l. LineSays c.args.store.now l [] [] c.args.store.now) (sym means) (refl, refl, refl) },
      c.in_ok-next_line.ensures.shown,
    )

pub returns-in-Bad : goal.returns-in-Bad
returns-in-Bad g c =
    let bytes = c.next_line.new.lines.line.items in
    let means = sym (c.parse_line.ensures.is ∙ ap (λ t. line_of (words_of t)) c.text.ensures) ∙ c.in-Bad.is in
    let took = c.next_line.ensures.line (c.in_ok-next_line.was ∙ ap Ok c.if-not-branch.false) in
    ((_, record { lines = bytes ∷ []; at = 1; taken = (_, took, refl); number_is = c.number.ensures ∙ c.in_ok-next_line.ensures.number; breaks = λ more _. subst (λ l. BreaksAt l more 1) (sym means) refl }), c.in_ok-next_line.ensures.shown)

pub returns-in_err-print_number-in-Size : goal.returns-in_err-print_number-in-Size
returns-in_err-print_number-in-Size g c =
    let bytes = c.next_line.new.lines.line.items in
    let means = sym (c.parse_line.ensures.is ∙ ap (λ t. line_of (words_of t)) c.text.ensures) ∙ c.in-Size.is in
    let took = c.next_line.ensures.line (c.in_ok-next_line.was ∙ ap Ok c.if-not-branch.false) in
    said_some (bytes_left g.R.Read.remaining c.args.lines.now) (bytes_left g.R.Read.remaining c.next_line.new.lines) c.args.lines.now.number c.next_line.new.lines.number c.args.store.now c.args.store.now
    (g.W.Write.contents c.args.output.now) _ (g.W.Write.contents c.print_number.new.output) c.args.printer.now.held.items _ c.print_number.new.printer.held.items (bytes ∷ []) (λ text. text ≡ decimal c.size.result ++ codes "\n") (_, took, refl) c.in_ok-next_line.ensures.number
    (λ text k. subst (λ l. LineSays c.args.store.now l [] text c.args.store.now) (sym means) (refl, k ∙ ap (λ n. decimal n ++ codes "\n") c.size.ensures, refl)) c.in_ok-next_line.ensures.shown
    c.in_err-print_number-in-Size.field-0.0 c.in_err-print_number-in-Size.ensures.printed c.from_residual-in_err-print_number-in-Size.result c.from_residual-in_err-print_number-in-Size.ensures.1

pub returns-in_ok-print_number-in-Size : goal.returns-in_ok-print_number-in-Size
returns-in_ok-print_number-in-Size g c =
    let bytes = c.next_line.new.lines.line.items in
    let means = sym (c.parse_line.ensures.is ∙ ap (λ t. line_of (words_of t)) c.text.ensures) ∙ c.in-Size.is in
    let took = c.next_line.ensures.line (c.in_ok-next_line.was ∙ ap Ok c.if-not-branch.false) in
    said_all (bytes_left g.R.Read.remaining c.args.lines.now) (bytes_left g.R.Read.remaining c.next_line.new.lines) c.args.lines.now.number c.next_line.new.lines.number c.args.store.now c.args.store.now
    (g.W.Write.contents c.args.output.now) _ (g.W.Write.contents c.print_number.new.output) c.args.printer.now.held.items _ c.print_number.new.printer.held.items (bytes ∷ []) (λ text. text ≡ decimal c.size.result ++ codes "\n") (_, took, refl) c.in_ok-next_line.ensures.number
    (λ text k. subst (λ l. LineSays c.args.store.now l [] text c.args.store.now) (sym means) (refl, k ∙ ap (λ n. decimal n ++ codes "\n") c.size.ensures, refl)) c.in_ok-next_line.ensures.shown
    c.in_ok-print_number-in-Size.ensures.printed

pub returns-in_err-run_command-in-Command : goal.returns-in_err-run_command-in-Command
returns-in_err-run_command-in-Command g c =
    let bytes = c.next_line.new.lines.line.items in
    let means = sym (c.parse_line.ensures.is ∙ ap (λ t. line_of (words_of t)) c.text.ensures) ∙ c.in-Command.is in
    let took = c.next_line.ensures.line (c.in_ok-next_line.was ∙ ap Ok c.if-not-branch.false) in
    said_some (bytes_left g.R.Read.remaining c.args.lines.now) (bytes_left g.R.Read.remaining c.next_line.new.lines) c.args.lines.now.number c.next_line.new.lines.number c.args.store.now c.run_command-in-Command.new.store
    (g.W.Write.contents c.args.output.now) _ (g.W.Write.contents c.run_command-in-Command.new.output) c.args.printer.now.held.items _ c.run_command-in-Command.new.printer.held.items (bytes ∷ []) (λ text. StepSays c.in-Command.command c.args.store.now text c.run_command-in-Command.new.store) (_, took, refl) c.in_ok-next_line.ensures.number
    (λ text k. subst (λ l. LineSays c.args.store.now l [] text c.run_command-in-Command.new.store) (sym means) (refl, k)) c.in_ok-next_line.ensures.shown
    c.in_err-run_command-in-Command.field-0.0 c.in_err-run_command-in-Command.ensures.printed c.from_residual-in_err-run_command-in-Command.result c.from_residual-in_err-run_command-in-Command.ensures.1

pub returns-in_err-run_command-in-Load : goal.returns-in_err-run_command-in-Load
returns-in_err-run_command-in-Load g c =
    let bytes = c.next_line.new.lines.line.items in
    let means = sym (c.parse_line.ensures.is ∙ ap (λ t. line_of (words_of t)) c.text.ensures) ∙ c.in-Load.is in
    let took = c.next_line.ensures.line (c.in_ok-next_line.was ∙ ap Ok c.if-not-branch.false) in
    let list = c.in_ok-list-in-Load.list in
    let load = c.in_ok-list-in-Load.ensures.load in
    said_some (bytes_left g.R.Read.remaining c.args.lines.now) (bytes_left g.R.Read.remaining c.read_load.new.lines) c.args.lines.now.number c.read_load.new.lines.number c.args.store.now c.run_command.new.store
    (g.W.Write.contents c.args.output.now) _ (g.W.Write.contents c.run_command.new.output) c.args.printer.now.held.items _ c.run_command.new.printer.held.items (bytes ∷ load.0.lines) (λ text. StepSays (command.Load list) c.args.store.now text c.run_command.new.store) (_, took, load.0.taken)
    (omega (arith, c.in_ok-next_line.ensures.number, load.0.count))
    (λ text k. subst (λ l. LineSays c.args.store.now l load.0.lines text c.run_command.new.store) (sym means) (list, load.0.lists, load.1, k)) (prints_both c.in_ok-next_line.ensures.shown c.in_ok-list-in-Load.ensures.shown)
    c.in_err-run_command-in-Load.field-0.0 c.in_err-run_command-in-Load.ensures.printed c.from_residual-in_err-run_command-in-Load.result c.from_residual-in_err-run_command-in-Load.ensures.1

pub returns-in_ok-run_command-in-Command : goal.returns-in_ok-run_command-in-Command
returns-in_ok-run_command-in-Command g c =
    let bytes = c.next_line.new.lines.line.items in
    let means = sym (c.parse_line.ensures.is ∙ ap (λ t. line_of (words_of t)) c.text.ensures) ∙ c.in-Command.is in
    let took = c.next_line.ensures.line (c.in_ok-next_line.was ∙ ap Ok c.if-not-branch.false) in
    said_all (bytes_left g.R.Read.remaining c.args.lines.now) (bytes_left g.R.Read.remaining c.next_line.new.lines) c.args.lines.now.number c.next_line.new.lines.number c.args.store.now c.run_command-in-Command.new.store
    (g.W.Write.contents c.args.output.now) _ (g.W.Write.contents c.run_command-in-Command.new.output) c.args.printer.now.held.items _ c.run_command-in-Command.new.printer.held.items (bytes ∷ []) (λ text. StepSays c.in-Command.command c.args.store.now text c.run_command-in-Command.new.store) (_, took, refl) c.in_ok-next_line.ensures.number
    (λ text k. subst (λ l. LineSays c.args.store.now l [] text c.run_command-in-Command.new.store) (sym means) (refl, k)) c.in_ok-next_line.ensures.shown
    c.in_ok-run_command-in-Command.ensures.printed

pub returns-in_ok-run_command-in-Load : goal.returns-in_ok-run_command-in-Load
returns-in_ok-run_command-in-Load g c =
    let bytes = c.next_line.new.lines.line.items in
    let means = sym (c.parse_line.ensures.is ∙ ap (λ t. line_of (words_of t)) c.text.ensures) ∙ c.in-Load.is in
    let took = c.next_line.ensures.line (c.in_ok-next_line.was ∙ ap Ok c.if-not-branch.false) in
    let list = c.in_ok-list-in-Load.list in
    let load = c.in_ok-list-in-Load.ensures.load in
    said_all (bytes_left g.R.Read.remaining c.args.lines.now) (bytes_left g.R.Read.remaining c.read_load.new.lines) c.args.lines.now.number c.read_load.new.lines.number c.args.store.now c.run_command.new.store
    (g.W.Write.contents c.args.output.now) _ (g.W.Write.contents c.run_command.new.output) c.args.printer.now.held.items _ c.run_command.new.printer.held.items (bytes ∷ load.0.lines) (λ text. StepSays (command.Load list) c.args.store.now text c.run_command.new.store) (_, took, load.0.taken)
    (omega (arith, c.in_ok-next_line.ensures.number, load.0.count))
    (λ text k. subst (λ l. LineSays c.args.store.now l load.0.lines text c.run_command.new.store) (sym means) (list, load.0.lists, load.1, k)) (prints_both c.in_ok-next_line.ensures.shown c.in_ok-list-in-Load.ensures.shown)
    c.in_ok-run_command-in-Load.ensures.printed

pub returns-in_err-list-in-Load : goal.returns-in_err-list-in-Load
returns-in_err-list-in-Load g c =
    let bytes = c.next_line.new.lines.line.items in
    let means = sym (c.parse_line.ensures.is ∙ ap (λ t. line_of (words_of t)) c.text.ensures) ∙ c.in-Load.is in
    let took = c.next_line.ensures.line (c.in_ok-next_line.was ∙ ap Ok c.if-not-branch.false) in
    load_stopped (bytes_left g.R.Read.remaining c.args.lines.now) (bytes_left g.R.Read.remaining c.next_line.new.lines) (bytes_left g.R.Read.remaining c.read_load.new.lines) c.args.lines.now.number c.next_line.new.lines.number c.read_load.new.lines.number
    c.in-Load.count bytes took c.in_ok-next_line.ensures.number means c.args.store.now c.args.store.now (g.W.Write.contents c.args.output.now) _ (g.W.Write.contents c.read_load.new.output) c.args.printer.now.held.items _ c.read_load.new.printer.held.items
    c.in_ok-next_line.ensures.shown (Vec Item) c.in_err-list-in-Load.field-0.0 c.in_err-list-in-Load.ensures.load c.in_err-list-in-Load.ensures.shown c.from_residual-in_err-list-in-Load.result c.from_residual-in_err-list-in-Load.ensures.1
