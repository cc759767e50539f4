use Rattle.std.proofs.Common.{take, length, length-append, ◌<◌, arith, refl}
use Rattle.std.proofs.lemmas.List.{append-nil, length-map, length-take, take_more}
use Rattle.std.proofs.lemmas.List.Sorted.{IsPermutation-refl, length_permutation}
use lib.Seq.{take_all}
use Rattle.rstar_base.specs.SmallHeaps.{items_of}
use Rattle.rstar_base.proofs.Lists.{all_along}
use Rattle.rstar.specs.inside.Searches.{waiting_nodes, held_by}
use Rattle.rstar.proofs.searching.Searches.{added-push}
use Rattle.rstar.proofs.selecting.Progress.{taken}
use Rattle.rstar.proofs.algorithm.nearest_neighbor.search.NodeSearch+T+O.add_children.Goals as goal

pub loop-node-init : goal.loop-node-init
loop-node-init g c =
    record { root = refl; stage = refl; opened = refl; ordered = c.requires; waiting = λ before. before; added = rw (append-nil (waiting_nodes (held_by c.args.self.now))) (IsPermutation-refl _) }

pub loop-node-preserved : goal.loop-node-preserved
loop-node-preserved g c =
    let in_range : c.loop-node.node-index < length c.args.children.now = omega arith in
    let more = rw (← c.node-item.is) at (take_more c.args.children.now c.loop-node.node-index c.node-item.result in_range) in
    record {
      root = c.loop-node.invariant.root;
      stage = c.loop-node.invariant.stage;
      opened = c.loop-node.invariant.opened;
      ordered = c.push.ensures.ordered;
      waiting = λ before. record { ordered = c.push.ensures.ordered; at = all_along _ _ _ c.in_default.ensures.ok (c.distance_to-distance.ensures, (c.loop-node.invariant.waiting before).at) };
      added = rw more (added-push (waiting_nodes (held_by c.args.self.now)) (take c.loop-node.node-index c.args.children.now) _ (items_of c.loop-node.self.heap) (items_of c.push.new.self) c.loop-node.invariant.added c.in_default.ensures.ok);
    }

pub returns-in-Err-clause-refused : goal.returns-in-Err-clause-refused
returns-in-Err-clause-refused g c =
    let in_range : c.loop-node.node-index < length c.args.children.now = omega arith in
    let waiting = waiting_nodes (held_by c.args.self.now) in
    let so_far = take c.loop-node.node-index c.args.children.now in
    let full = taken c.push.result c.in-Err.is (length (items_of c.loop-node.self.heap)) c.push.ensures.inline in
    omega (
      arith,
      full,
      in_range,
      length-map (items_of c.loop-node.self.heap) (λ w. w.node.now),
      length_permutation _ _ c.loop-node.invariant.added,
      length-append waiting so_far,
      length-append waiting c.args.children.now,
      length-take c.loop-node.node-index c.args.children.now,
    )

pub returns : goal.returns
returns g c =
    let inv = c.loop-node.invariant in
    record { root = inv.root; opened = inv.opened; stage = inv.stage; waiting = inv.waiting; added = rw (take_all c.loop-node.node-index c.args.children.now (omega arith)) at inv.added; refused = tt }
