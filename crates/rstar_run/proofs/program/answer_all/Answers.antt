use Rattle.std.proofs.Common.{Bool, refl, subst, Ok}
use Rattle.rstar_run.specs.Lines.{bytes_left}
use Rattle.rstar_run.specs.Runs.{Turn}
use Rattle.rstar_run.specs.declared.stops.Stop.TheVariants as stop
use Rattle.rstar_run.proofs.Prints.{nothing}
use Rattle.rstar_run.proofs.Runs.{reached_first, reached_more, reached_end, reached_stop, ended_at, never_begun}
use Rattle.rstar_run.proofs.program.answer_all.Goals as goal

pub returns-in_err-lines : goal.returns-in_err-lines
returns-in_err-lines g c =
    ended_at _ _ _ _ _ stop.Memory (never_begun (g.R.Read.remaining c.args.input) (g.W.Write.contents c.args.output.now) c.args.printer.now.held.items)
    c.in_err-lines.field-0.0 c.in_err-lines.ensures.stop c.from_residual.result c.from_residual.ensures.1

pub loop-init : goal.loop-init
loop-init g c =
    reached_first (g.R.Read.remaining c.args.input) (bytes_left g.R.Read.remaining c.in_ok-lines.lines) c.in_ok-lines.lines.number c.args.store.now
    (g.W.Write.contents c.args.output.now) c.args.printer.now.held.items c.in_ok-lines.ensures.left c.in_ok-lines.ensures.number c.requires

pub returns-in_err-answer_next : goal.returns-in_err-answer_next
returns-in_err-answer_next g c =
    let stopped = c.in_err-answer_next.field-0.0 in
    ended_at _ _ _ _ _ stopped (
    reached_stop (g.R.Read.remaining c.args.input) (bytes_left g.R.Read.remaining c.loop.lines) (bytes_left g.R.Read.remaining c.answer_next.new.lines) c.loop.lines.number c.answer_next.new.lines.number c.loop.store c.answer_next.new.store
    (g.W.Write.contents c.args.output.now) (g.W.Write.contents c.loop.output) (g.W.Write.contents c.answer_next.new.output) c.args.printer.now.held.items c.loop.printer.held.items c.answer_next.new.printer.held.items c.loop.invariant
    stopped c.in_err-answer_next.ensures)
    stopped refl c.from_residual-in_err-answer_next.result c.from_residual-in_err-answer_next.ensures.1

pub returns-then-not-branch : goal.returns-then-not-branch
returns-then-not-branch g c =
    let left = bytes_left g.R.Read.remaining c.loop.lines in
    let left' = bytes_left g.R.Read.remaining c.answer_next.new.lines in
    let new = g.W.Write.contents c.loop.output in
    let new' = g.W.Write.contents c.answer_next.new.output in
    let mid = c.loop.printer.held.items in
    let held' = c.answer_next.new.printer.held.items in
    reached_end (g.R.Read.remaining c.args.input) left left' c.loop.lines.number c.answer_next.new.lines.number c.loop.store c.answer_next.new.store (g.W.Write.contents c.args.output.now) new new' c.args.printer.now.held.items mid held' c.loop.invariant
    (subst (λ (b : Bool). Turn left left' c.loop.lines.number c.answer_next.new.lines.number c.loop.store c.answer_next.new.store new new' mid held' (Ok b)) c.if-not-branch.true c.in_ok-answer_next.ensures)

pub loop-preserved : goal.loop-preserved
loop-preserved g c =
    let left = bytes_left g.R.Read.remaining c.loop.lines in
    let left' = bytes_left g.R.Read.remaining c.answer_next.new.lines in
    let new = g.W.Write.contents c.loop.output in
    let new' = g.W.Write.contents c.answer_next.new.output in
    let mid = c.loop.printer.held.items in
    let held' = c.answer_next.new.printer.held.items in
    reached_more (g.R.Read.remaining c.args.input) left left' c.loop.lines.number c.answer_next.new.lines.number c.loop.store c.answer_next.new.store (g.W.Write.contents c.args.output.now) new new' c.args.printer.now.held.items mid held' c.loop.invariant
    (subst (λ (b : Bool). Turn left left' c.loop.lines.number c.answer_next.new.lines.number c.loop.store c.answer_next.new.store new new' mid held' (Ok b)) c.if-not-branch.false c.in_ok-answer_next.ensures)

pub returns : goal.returns
returns g c =
    let left = bytes_left g.R.Read.remaining c.loop.lines in
    let new = g.W.Write.contents c.loop.output in
    let mid = c.loop.printer.held.items in
    reached_stop (g.R.Read.remaining c.args.input) left left c.loop.lines.number c.loop.lines.number c.loop.store c.loop.store (g.W.Write.contents c.args.output.now) new new c.args.printer.now.held.items mid mid c.loop.invariant
    stop.Input (nothing new mid)
