use Rattle.rstar.specs.Trees.{root_of}
use Rattle.rstar_run.proofs.Packing.{input-loaded, pack_refused}
use Rattle.rstar_run.proofs.stored.packed.Goals as goal

pub returns-in_err-write_stored : goal.returns-in_err-write_stored
returns-in_err-write_stored g c =
    let tree = c.in_ok-tree.tree in
    let loads = input-loaded _ tree c.in_ok-tree.ensures.whole c.in_ok-points.points.items c.in_ok-points.ensures c.in_ok-tree.ensures.same c.in_ok-tree.ensures.loaded in
    pack_refused _ (root_of tree) loads c.in_err-write_stored.field-0.0 c.in_err-write_stored.ensures.refused c.from_residual-in_err-write_stored.result c.from_residual-in_err-write_stored.ensures.1

pub returns : goal.returns
returns g c =
    let tree = c.in_ok-tree.tree in
    let loads = input-loaded _ tree c.in_ok-tree.ensures.whole c.in_ok-points.points.items c.in_ok-points.ensures c.in_ok-tree.ensures.same c.in_ok-tree.ensures.loaded in
    (root_of tree, loads, c.in_ok-write_stored.ensures.spelled)
