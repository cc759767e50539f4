use Rattle.std.proofs.Common.{◌≡◌}
use Rattle.rstar.specs.Nodes.{all_elements, elements_of}
use Rattle.rstar.specs.inside.Searches.{waiting_of}
use Rattle.rstar.proofs.searching.InOrder.{begun-left}
use Rattle.rstar.proofs.algorithm.nearest_neighbor.firsts.first_nearest.Goals as goal

pub returns-clause-first : goal.returns-clause-first
returns-clause-first g c =
    let whole : all_elements (waiting_of c.new-search.result) ≡ elements_of c.args.root.now = begun-left _ _ _ (c.new-search.ensures.begun c.args.point.now) in
    rw whole at (c.take_first.ensures.first g.E.TieOrder.order g.met.E.ElementOrder.ties)
