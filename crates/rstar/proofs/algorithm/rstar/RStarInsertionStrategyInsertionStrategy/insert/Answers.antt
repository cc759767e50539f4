use Rattle.std.proofs.Common.{rules}
use Rattle.rstar.specs.Trees.{root_of}
use Rattle.rstar.proofs.trees.WholeTrees.{sized_along}
use Rattle.rstar.proofs.algorithm.rstar.RStarInsertionStrategyInsertionStrategy.insert.Goals as goal

pub returns : goal.returns
returns g c =
    let same = sized_along g.Params.RTreeParams.MIN_SIZE g.Params.RTreeParams.MAX_SIZE (root_of c.args.tree.now) (root_of c.prepare.new.self) c.prepare.ensures.same in
    search (rules, c.insert_prepared.ensures.sized)

pub returns-in_default-prepare : goal.returns-in_default-prepare
returns-in_default-prepare g c =
    search (rules, sized_along g.Params.RTreeParams.MIN_SIZE g.Params.RTreeParams.MAX_SIZE (root_of c.args.tree.now) (root_of c.prepare.new.self) c.prepare.ensures.same)
