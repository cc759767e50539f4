use Rattle.std.proofs.Common.{sym, subst}
use Rattle.std.proofs.HeapSift as sifts
use Rattle.rstar_base.specs.SmallHeaps.{present, Rises}
use Rattle.rstar_base.proofs.HeapParts.{ordered-of}
use Rattle.rstar_base.proofs.heap.SmallHeap.new.Goals as goal

pub returns-clause-ordered : goal.returns-clause-ordered
returns-clause-ordered g c = ordered-of g.T.Ord.cmp _ (subst (λ l. Rises g.T.Ord.cmp (present l)) (sym c.new.ensures) tt) (sifts.empty g.met.T.Ord.total _ c.new-2.ensures.items)
