use Rattle.rstar.specs.Trees.{elements_in, IsWholeTree}
use Rattle.rstar.proofs.removing.Removed.{bag_without, counted_down, none_from_start}
use Rattle.rstar.proofs.rtree.RTree.remove_with_selection_function.Goals as goal

pub returns-clause-taken : goal.returns-clause-taken
returns-clause-taken g c = bag_without (elements_in c.args.self.now) _ _ c.take_next.ensures.taken

pub returns-clause-none : goal.returns-clause-none
returns-clause-none g c = none_from_start _ _ _ c.take_next.ensures.missed

pub returns-clause-counted : goal.returns-clause-counted
unfolding IsWholeTree
returns-clause-counted g c = counted_down _ _ _ _ _ c.requires.counted (c.take_next.ensures.whole tt).counted c.take_next.ensures.taken
