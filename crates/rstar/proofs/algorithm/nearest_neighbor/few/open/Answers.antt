use Rattle.std.proofs.Common.{◌<◌, ◌+◌, ◌∷◌, [], length, take, ap, ◌∙◌, arith}
use Rattle.std.proofs.lemmas.List.{take_more}
use Rattle.std.proofs.lemmas.List.Sums.{sum_by-append, sum_by-take-le}
use Rattle.rstar.specs.Nodes.{all_parents, parents}
use Rattle.rstar.proofs.searching.Seeking.{visits-more}
use Rattle.rstar.proofs.selecting.Progress.{on_err}
use Rattle.rstar.proofs.algorithm.nearest_neighbor.few.open.Goals as goal

pub loop-child-preserved : goal.loop-child-preserved
loop-child-preserved g c =
    let in_range : c.loop-child.child-index < length c.args.children.now = omega arith in
    visits-more c.loop-child.invariant c.in_ok-offer.ensures.visits (rw (← c.child-item.is) at (take_more c.args.children.now c.loop-child.child-index c.child-item.result in_range))

pub returns-in_err-offer-clause-refused : goal.returns-in_err-offer-clause-refused
returns-in_err-offer-clause-refused g c = λ one.
    let visits = c.loop-child.invariant in
    let index = c.loop-child.child-index in
    let children = c.args.children.now in
    let child = c.child-item.result in
    let in_range : index < length children = omega arith in
    let more = rw (← c.child-item.is) at (take_more children index c.child-item.result in_range) in
    on_err c.from_residual.result _ (omega (arith, c.in_err-offer.ensures.refused (visits.same ∙ one), visits.fewer, ap all_parents more, sum_by-append parents (take index children) (child ∷ []), sum_by-take-le parents children (index + 1)))
