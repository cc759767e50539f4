use Rattle.std.proofs.Common.{◌∙◌, ap, map, sym}
use Rattle.std.proofs.lemmas.Simd.{map-map}
use Rattle.rstar.proofs.selecting.Chains.{selection_end}
use Rattle.rstar_c.specs.Items.{corners_of, number}
use Rattle.rstar_c.specs.Put.{over}
use Rattle.rstar_c.proofs.store.Store.put_all.Goals as goal

pub returns-in-Ok-clause-boxes : goal.returns-in-Ok-clause-boxes
returns-in-Ok-clause-boxes c =
    let put = c.put_items.ensures in
    let run = put.given in
    let given = selection_end _ _ c.in-Ok.ensures.all put.given_items run.1.0 run.1.1 _ run.1.2 in
    put.first ∙ ap (λ xs. over xs c.args.boxes.now) (sym (map-map _ _ put.given_items) ∙ ap (map corners_of) (given ∙ c.self.view_is))

pub returns-in-Ok-clause-ids : goal.returns-in-Ok-clause-ids
returns-in-Ok-clause-ids c =
    let put = c.put_items.ensures in
    let run = put.given in
    let given = selection_end _ _ c.in-Ok.ensures.all put.given_items run.1.0 run.1.1 _ run.1.2 in
    put.second ∙ ap (λ xs. over xs c.args.ids.now) (sym (map-map _ _ put.given_items) ∙ ap (map number) (given ∙ c.self.view_is))
