-- What an iterator over neighbours takes of the memory.
use Rattle.std.proofs.Common.{arith}
use Rattle.std.specs.Mem.{FitsInMemory}
use denote.RattleType.{RattleType}
use denote.Param.{layout}
use Rattle.rstar_base.specs.Sizes.{IsNarrow}
use Rattle.rstar.proofs.searching.Room.{fits}
use Rattle.rstar_vectors.specs.Fits.{iterator_row, alone_row, ordered_row}

pub iterator_fits : (P S : RattleType) → IsNarrow P → IsNarrow S → FitsInMemory (iterator_row P S)
iterator_fits P S point scalar = fits (layout (iterator_row P S)) (omega arith)

pub alone_fits : (P S : RattleType) → IsNarrow P → IsNarrow S → FitsInMemory (alone_row P S)
alone_fits P S point scalar = fits (layout (alone_row P S)) (omega arith)

pub ordered_fits : (P S : RattleType) → IsNarrow P → IsNarrow S → FitsInMemory (ordered_row P S)
ordered_fits P S point scalar = fits (layout (ordered_row P S)) (omega arith)
