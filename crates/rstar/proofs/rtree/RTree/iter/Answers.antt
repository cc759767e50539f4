use Rattle.std.proofs.Common.{◌∙◌, refl}
use Rattle.std.proofs.lemmas.Result.{IfOk-weaker}
use Rattle.rstar.proofs.selecting.Complete.{filter-every}
use Rattle.rstar.proofs.rtree.RTree.iter.Goals as goal

pub returns-clause-all : goal.returns-clause-all
returns-clause-all g c =
    IfOk-weaker c.locate_with_selection_function.result _ _
    (λ it all. all (λ t e v w s n. refl) ∙ filter-every _) c.locate_with_selection_function.ensures.all
