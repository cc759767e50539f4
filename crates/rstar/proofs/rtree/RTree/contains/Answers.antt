use Rattle.std.proofs.Common.{◌∙◌}
use Rattle.rstar.specs.Trees.{elements_in}
use Rattle.rstar.proofs.removing.Removed.{any_one}
use Rattle.rstar.proofs.rtree.RTree.contains.Goals as goal

pub returns : goal.returns
returns g c =
    c.is_some.ensures ∙ any_one _ (elements_in c.args.self.now) c.locate_first.result (rw c.new.ensures.selects at (c.locate_first.ensures c.new.ensures.lawful))
