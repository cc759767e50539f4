-- What a search that is held by value takes of the memory. Only the scalar lies in it by value: any type stands for
-- what is lent, and for what says which node comes first of several, of which there is no value.
use denote.RattleType.{RattleType}
use denote.Builtin.{usize}
use denote.Param.{copied}
use denote.Signature.{static_lft}
use Rattle.rstar_base.specs.contracts.heap.SmallHeap as heap
use Rattle.rstar.specs.contracts.algorithm.nearest_neighbor.waiting.Waiting as waiting
use Rattle.rstar.specs.contracts.algorithm.nearest_neighbor.search.NeighborSearch as search

-- the nodes that wait, at scalars of this type
abbrev pub heap_row : RattleType → RattleType
heap_row S = heap.the_row (waiting.the_row usize (copied 0 S) usize)

-- a search without its point
abbrev pub search_row : RattleType → RattleType
search_row S = search.the_row static_lft usize usize (copied 0 S) usize
