use Rattle.std.proofs.Common.{ap, sym, ◌∙◌, arith}
use Rattle.std.proofs.lemmas.Result.{IfOk-weaker}
use Rattle.rstar.specs.inside.Few.{is_one}
use Rattle.rstar.specs.Nodes.{elements_of}
use Rattle.rstar.proofs.searching.Few as few
use Rattle.rstar.proofs.algorithm.nearest_neighbor.few.first_few.Goals as goal

pub unreachable-requires : goal.unreachable-requires
unreachable-requires g c = cc (sym c.search.ensures.same ∙ ap is_one c.in-One.is)

pub returns-clause-first : goal.returns-clause-first
returns-clause-first g c = IfOk-weaker c.lent.result _ _ (λ lent is. few.lent-first c.in-Few.found.items is (rw c.in-Few.is at c.in_ok-search.ensures.first)) c.lent.ensures

pub returns-clause-distances : goal.returns-clause-distances
returns-clause-distances g c = IfOk-weaker c.lent.result _ _ (λ lent is. few.lent-all c.in-Few.found.items is _ (rw c.in-Few.is at c.in_ok-search.ensures.distances)) c.lent.ensures

pub returns-then-most-eq0-clause-first : goal.returns-then-most-eq0-clause-first
returns-then-most-eq0-clause-first g c = rw c.new.ensures.items (few.first-of-none _ c.args.most (elements_of c.args.root.now) (omega arith))
