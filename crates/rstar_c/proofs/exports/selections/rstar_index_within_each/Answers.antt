use Rattle.std.proofs.Common.{◌∙◌, ℤ, filter, subst, sym, w32, w64}
use Rattle.std.proofs.Math.Facts.{to_z-of_z}
use Rattle.rstar_c.specs.Answers.{AreFound}
use Rattle.rstar_c.specs.Handles.{items_in}
use Rattle.rstar_c.specs.Items.{is_within, number}
use Rattle.rstar_c.proofs.exports.selections.rstar_index_within_each.Goals as goal

pub returns-clause-found : goal.returns-clause-found
returns-clause-found c = λ ok.
    subst (λ (distance : ℤ). AreFound number (λ a. filter (is_within distance a) (items_in c.args.index.now)) c.args.places.now c.ask_each.new.offsets c.args.ids.now c.ask_each.new.ids)
    (to_z-of_z {w = w64} c.ranges.distance) (c.ask_each.ensures.found (sym (to_z-of_z {w = w32} (record { sfits = c.ask_each.type_inv })) ∙ ok))
