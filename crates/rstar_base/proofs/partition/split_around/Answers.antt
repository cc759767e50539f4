use Rattle.std.proofs.Common.{arith}
use Rattle.std.proofs.lemmas.List.Sorted.{IsPermutation-trans}
use Rattle.rstar_base.proofs.Around.{around_least}
use Rattle.rstar_base.proofs.partition.split_around.Goals as goal

pub returns-clause-same : goal.returns-clause-same
returns-clause-same g c = IsPermutation-trans _ _ _ c.gather-less.ensures.same c.gather-same.ensures.same

pub returns-clause-around : goal.returns-clause-around
returns-clause-around g c = around_least _ _ _ _ _ _ (omega arith) c.gather-less.ensures.around c.gather-same.ensures.same c.gather-same.ensures.around
