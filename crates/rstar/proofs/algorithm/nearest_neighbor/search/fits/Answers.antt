use Rattle.std.proofs.Common.{arith}
use denote.Param.{layout}
use Rattle.rstar_base.specs.Sizes.{IsNarrow}
use Rattle.rstar.specs.inside.Fits.{heap_row, search_row}
use Rattle.rstar.proofs.searching.Room.{fits}
use Rattle.rstar.proofs.algorithm.nearest_neighbor.search.fits.Goals as goal

pub returns : goal.returns
returns g c =
    let narrow : IsNarrow g.row.S = g.met.S.SquaredDistance.narrow in
    record { heap = fits (layout (heap_row g.row.S)) (omega arith); search = fits (layout (search_row g.row.S)) (omega arith) }
