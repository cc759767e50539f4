use Rattle.std.proofs.Common.{◌≡◌, sym, subst}
use Rattle.std.specs.List.Sorted.{IsPermutation}
use Rattle.std.proofs.lemmas.Iterator.{items_from_collect}
use Rattle.std.proofs.lemmas.Result.{IfOk-weaker}
use Rattle.rstar.specs.IntoIters.{left_to_give}
use Rattle.rstar.specs.Trees.{elements_in}
use Rattle.rstar_run.proofs.Packing.{all_given}
use Rattle.rstar_run.proofs.stored.points_of.Goals as goal

pub returns-in-Ok : goal.returns-in-Ok
returns-in-Ok c =
    let all = c.in-Ok.all in
    IfOk-weaker c.collect.result (λ points. points.items ≡ left_to_give all) (λ points. IsPermutation (elements_in c.args.tree) points.items)
    (λ points same. subst (IsPermutation (elements_in c.args.tree)) (sym same) c.in-Ok.ensures.all) (items_from_collect _ c.collect.ensures.ran (all_given all))
