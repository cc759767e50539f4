-- What an iterator over neighbours takes of the memory: a point and scalars lie in it by value.
use denote.RattleType.{RattleType}
use denote.Builtin.{usize}
use denote.Param.{copied}
use denote.Signature.{static_lft}
use Rattle.rstar.specs.contracts.algorithm.nearest_neighbor.NeighborsWithDistance as with_distances
use Rattle.rstar.specs.contracts.algorithm.nearest_neighbor.Neighbors as alone
use Rattle.rstar.specs.contracts.algorithm.nearest_neighbor.by_order.NeighborsByOrder as by_order

abbrev pub iterator_row : RattleType → RattleType → RattleType
iterator_row P S = with_distances.the_row static_lft usize usize (copied 0 S) (copied 0 P)

-- the same without distances
abbrev pub alone_row : RattleType → RattleType → RattleType
alone_row P S = alone.the_row static_lft usize usize (copied 0 S) (copied 0 P)

-- the same in the stated order
abbrev pub ordered_row : RattleType → RattleType → RattleType
ordered_row P S = by_order.the_row static_lft usize usize (copied 0 S) (copied 0 P)
