use Rattle.std.proofs.Common.{refl, sym}
use Rattle.rstar.proofs.lists.Items.{all_get, all_more, all_whole}
use Rattle.rstar.proofs.replay.fits.all_fit.Goals as goal

pub returns-then-not-is_fit : goal.returns-then-not-is_fit
returns-then-not-is_fit g c = (
  λ says. cc,
  λ all.
      let fit = c.is_fit.ensures.1 (rw (sym c.command-item.is) at (all_get _ c.args.commands.now c.loop-command.command-index c.command-item.result c.loop-command-test.true all)) in
      let is = c.if-not-is_fit.true in
      cc,
)

pub loop-command-preserved : goal.loop-command-preserved
loop-command-preserved g c = all_more _ c.args.commands.now c.loop-command.command-index c.command-item.result c.loop-command-test.true c.command-item.is (c.is_fit.ensures.0 c.if-not-is_fit.false) c.loop-command.invariant

pub returns : goal.returns
returns g c = (λ says. all_whole _ c.args.commands.now c.loop-command.command-index c.loop-command-test.false c.loop-command.invariant, λ all. refl)
