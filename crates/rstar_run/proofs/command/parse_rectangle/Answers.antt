use Rattle.std.proofs.Common.{refl, sym, ap, ◌∙◌}
use Rattle.rstar_run.specs.Words.{words_of}
use Rattle.rstar_run.specs.declared.command.Entry.TheVariants as entry
use Rattle.rstar_run.proofs.Commands.{entry_found}
use Rattle.rstar_run.proofs.command.parse_rectangle.Goals as goal

pub returns-clause-found : goal.returns-clause-found
returns-clause-found c =
    ap entry.Item c.item_of.ensures.is
    ∙ entry_found (words_of c.args.text.now) _ _ (words_of c.in_ok-id.text.now) c.in_ok-id.ensures.rest c.in_ok-id.ensures.number c.in_ok-corners.ensures.corners
    (sym c.in_ok-corners.ensures.rest ∙ c.if-not-is_blank.ensures.0 refl)
