use Rattle.std.proofs.Common.{◌<◌, ap, ◌∙◌, arith, map, rules}
use Rattle.std.proofs.lemmas.List.{map-append}
use Rattle.rstar.specs.Nodes.{total}
use Rattle.rstar.specs.inside.Searches.{AreWholeNodes}
use Rattle.rstar.specs.inside.Traversals.{steps}
use Rattle.rstar.proofs.searching.SearchTurns.{measured-by}
use Rattle.rstar.proofs.searching.Ties as ties
use Rattle.rstar.proofs.algorithm.nearest_neighbor.ties.+add_within.Goals as goal

pub add_within-requires : goal.add_within-requires
add_within-requires g t c κs within =
    let law = measured-by g.met.T.Cover.Merges.merge_laws g.met.T.Covered.cover_law g.met.T.Measured.distance_laws c.requires.point in
    let below = ties.fewer-below c.in-Parent.parent c.in-Some.ensures.cases.0 c.in-Parent.is in
    let falls : total (map steps c.deref.result.now) < t = omega (arith, below, c.loop-node.invariant.less, ap (λ l. total (map steps l)) c.deref.ensures.value, c.decreases) in
    let parts : AreWholeNodes g.T.Cover.Merges.boxes g.T.Covered.object c.deref.result.now = rw c.deref.ensures.value (ties.below-parts law c.in-Parent.parent c.in-Some.ensures.cases.0 c.in-Parent.is c.loop-node.invariant.parts) in
    search rules

pub loop-node-smaller-in_ok-push-in-Leaf : goal.loop-node-smaller-in_ok-push-in-Leaf
loop-node-smaller-in_ok-push-in-Leaf g t c = ties.fewer-after c.in-Some.ensures.cases.0

pub loop-node-preserved-in_ok-push-in-Leaf : goal.loop-node-preserved-in_ok-push-in-Leaf
loop-node-preserved-in_ok-push-in-Leaf g t c =
    let law = measured-by g.met.T.Cover.Merges.merge_laws g.met.T.Covered.cover_law g.met.T.Measured.distance_laws c.requires.point in
    ties.passed-leaf law c.in-Some.ensures.cases.0 c.in-Leaf.t c.in-Leaf.is (rw (c.if-is_within.true, c.distance_to.ensures) at c.is_within.ensures)
    (ap (map (λ t. t.now)) c.in_ok-push-in-Leaf.ensures.items ∙ map-append (λ t. t.now) c.loop-node.all.items _) c.loop-node.invariant

pub loop-node-smaller-in_ok-add_within-in-Parent :
    goal.loop-node-smaller-in_ok-add_within-in-Parent
loop-node-smaller-in_ok-add_within-in-Parent g t c = ties.fewer-after c.in-Some.ensures.cases.0

pub loop-node-preserved-in_ok-add_within-in-Parent :
    goal.loop-node-preserved-in_ok-add_within-in-Parent
loop-node-preserved-in_ok-add_within-in-Parent g t c =
    let law = measured-by g.met.T.Cover.Merges.merge_laws g.met.T.Covered.cover_law g.met.T.Measured.distance_laws c.requires.point in
    ties.passed-parent law c.in-Some.ensures.cases.0 c.in-Parent.parent c.deref.result.now c.in-Parent.is c.deref.ensures.value c.in_ok-add_within-in-Parent.ensures c.loop-node.invariant

pub loop-node-smaller : goal.loop-node-smaller
loop-node-smaller g t c = ties.fewer-after c.in-Some.ensures.cases.0

pub loop-node-preserved : goal.loop-node-preserved
loop-node-preserved g t c =
    let law = measured-by g.met.T.Cover.Merges.merge_laws g.met.T.Covered.cover_law g.met.T.Measured.distance_laws c.requires.point in
    ties.passed-beyond law c.in-Some.ensures.cases.0 (rw (c.if-is_within.false, c.distance_to.ensures) at c.is_within.ensures) c.loop-node.invariant
