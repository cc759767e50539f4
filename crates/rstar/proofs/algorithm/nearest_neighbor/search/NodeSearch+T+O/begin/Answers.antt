use Rattle.std.proofs.Common.{arith, ap, ◌∙◌, length}
use Rattle.std.proofs.lemmas.List.{append-nil}
use Rattle.std.proofs.lemmas.List.Sorted.{IsPermutation-refl}
use Rattle.rstar.specs.declared.node.RTreeNode.{Parent}
use Rattle.rstar.specs.Nodes.{children_of, elements}
use Rattle.rstar.proofs.trees.ByChildren.{elements-Parent, parents-Parent}
use Rattle.rstar.proofs.searching.Nearness.{no-more-nodes, parts}
use Rattle.rstar.proofs.searching.SearchTurns.{measured-by, root-under-way}
use Rattle.rstar.proofs.selecting.Progress.{on_err}
use Rattle.rstar.proofs.algorithm.nearest_neighbor.search.NodeSearch+T+O.begin.Goals as goal

pub returns-in_ok-add_children-in-Fresh-clause-under_way : goal.returns-in_ok-add_children-in-Fresh-clause-under_way
returns-in_ok-add_children-in-Fresh-clause-under_way g c =
    let ready = rw c.in-Fresh.is at c.requires.ready in
    let law = measured-by g.met.T.Cover.Merges.merge_laws g.met.T.Covered.cover_law g.met.T.Measured.distance_laws c.known.ensures.range in
    let put = rw (ready.1, c.deref.ensures.value) at c.in_ok-add_children-in-Fresh.ensures.added in
    rw (c.add_children.ensures.root, c.in-Fresh.is) (root-under-way law c.args.self.now.root.now c.add_children.new.self.heap put ready.0 c.add_children.ensures.opened (c.add_children.ensures.waiting ready.3))

pub returns-in_err-add_children-in-Fresh-clause-refused : goal.returns-in_err-add_children-in-Fresh-clause-refused
returns-in_err-add_children-in-Fresh-clause-refused g c =
    let ready = rw c.in-Fresh.is at c.requires.ready in
    let law = measured-by g.met.T.Cover.Merges.merge_laws g.met.T.Covered.cover_law g.met.T.Measured.distance_laws c.known.ensures.range in
    let root = c.args.self.now.root.now in
    let many = rw (ready.1, c.deref.ensures.value) at c.in_err-add_children-in-Fresh.ensures.refused in
    let more = no-more-nodes law (children_of root) (parts law ready.0.height (children_of root) ready.0.below) in
    on_err c.from_residual.result _ (rw c.in-Fresh.is (omega (arith, parents-Parent root), omega (arith, many, more, ap length (append-nil (elements (Parent root)) ∙ elements-Parent root))))

pub returns-in-Running-clause-under_way : goal.returns-in-Running-clause-under_way
returns-in-Running-clause-under_way g c = let ready = rw c.in-Running.is at c.requires.ready in rw c.in-Running.is record { running = ready; bag = IsPermutation-refl _; fewer = omega arith }
