use Rattle.std.proofs.Common.{◌≡◌, ◌∙◌, ◌<◌, ℤ, filter, length, of_z, subst, sym, to_z, w32, w64}
use Rattle.std.specs.Prelude.{◌↔◌}
use Rattle.std.proofs.Math.Facts.{to_z-of_z}
use Rattle.rstar_c.specs.Answers.{IsDrained}
use Rattle.rstar_c.specs.Handles.{items_in}
use Rattle.rstar_c.specs.Items.{is_within}
use Rattle.rstar_c.specs.declared.statuses.TheConstants.{NO_ROOM}
use Rattle.rstar_c.proofs.exports.drains.rstar_index_drain_within.Goals as goal

pub returns-clause-drained : goal.returns-clause-drained
returns-clause-drained c = λ ok.
    subst (λ (distance : ℤ). IsDrained (is_within distance c.args.place.now) (items_in c.args.index.now) (items_in c.take.new.index) c.args.ids.now c.take.new.ids c.take.new.found)
    (to_z-of_z {w = w64} c.ranges.distance) (c.take.ensures.drained (sym (to_z-of_z {w = w32} (record { sfits = c.take.type_inv })) ∙ ok))

pub returns-clause-room : goal.returns-clause-room
returns-clause-room c =
    subst (λ (distance : ℤ). (to_z w32 (of_z w32 c.take.result) ≡ NO_ROOM) ↔ (length c.args.ids.now < length (filter (is_within distance c.args.place.now) (items_in c.args.index.now))))
    (to_z-of_z {w = w64} c.ranges.distance) (
      λ refused. c.take.ensures.room.0 (sym (to_z-of_z {w = w32} (record { sfits = c.take.type_inv })) ∙ refused),
      λ less. to_z-of_z {w = w32} (record { sfits = c.take.type_inv }) ∙ c.take.ensures.room.1 less,
    )
