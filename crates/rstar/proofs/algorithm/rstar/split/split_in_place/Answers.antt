use Rattle.std.proofs.Common.{arith}
use Rattle.std.proofs.lemmas.List.{take-append-drop}
use Rattle.std.proofs.lemmas.List.Sorted.{length_permutation}
use Rattle.rstar_base.proofs.Present.{refill-same}
use Rattle.rstar.proofs.algorithm.rstar.split.split_in_place.Goals as goal

pub returns-clause-arranged : goal.returns-clause-arranged
returns-clause-arranged g c =
    let whole = refill-same c.args.list.now.len c.args.list.now.items c.arrange.new.list (omega (arith, length_permutation _ _ c.arrange.ensures.same, c.args.list.now.ok.0)) in
    rw (c.cut_at.ensures.first, c.cut_at.ensures.second, take-append-drop, whole) (rw c.deref_mut.ensures.value at c.arrange.ensures)
