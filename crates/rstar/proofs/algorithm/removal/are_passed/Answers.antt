use Rattle.std.proofs.Common.{sym, ◌∙◌}
use Rattle.rstar.proofs.trees.ByChildren.{elements-Leaf}
use Rattle.rstar.proofs.algorithm.removal.are_passed.Goals as goal

pub loop-first-preserved : goal.loop-first-preserved
loop-first-preserved g c none = c.loop-first.invariant
    (rw (c.in-Some.ensures.cases.0, c.in-Leaf.is, elements-Leaf _ _ c.in-Leaf.t) (sym c.should_unpack_leaf.ensures ∙ c.if-should_unpack_leaf.false, none))
