use Rattle.std.proofs.Common.{◌∙◌, ap, sym, min, length}
use Rattle.std.proofs.lemmas.List.{length-map}
use Rattle.rstar.proofs.selecting.Chains.{selection_end}
use Rattle.rstar_base.specs.Counts.{usize_max}
use Rattle.rstar_vectors.proofs.places.counted_inside.Goals as goal

pub returns-in-Ok : goal.returns-in-Ok
returns-in-Ok g c =
    let count = c.counted.ensures in
    let run = count.given in
    let given = selection_end _ _ c.in-Ok.ensures.all count.items run.0 run.1 _ run.2 in
    count.counted ∙ ap (λ n. min n usize_max) (sym (length-map count.items _) ∙ ap length given)
