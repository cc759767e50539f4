use Rattle.std.proofs.Common.{◌≡◌, ◌+◌, ◌-◌, ◌*◌, ◌^◌, ◌<◌, ◌≤◌, length}
use Rattle.rstar.specs.Lists.{NoneEmpty}
use Rattle.rstar.specs.inside.Loads.{IsUnderway, IsFreshNode, front_of, last_of}
use Rattle.rstar.proofs.algorithm.bulk_load.parts.+load.Given as goal

abbrev pub decreases-load_node : goal.decreases-load_node
decreases-load_node g l = l.below * (g.T.InSlabs.axes + 2)

abbrev pub decreases-load_parts : goal.decreases-load_parts
decreases-load_parts g l = l.below * (g.T.InSlabs.axes + 2) + l.axes + 1

-- the slabs so far were taken off the end, and the nodes of their elements put in
abbrev pub invariant-load_parts-loop-rest : goal.invariant-load_parts-loop-rest
invariant-load_parts-loop-rest g l = record {
  within : l.rest ≤ length l.list.items;
  front : front_of l.rest l.list.items ≡ front_of l.len l.fn.list.items;
  each : NoneEmpty g.T.Cover.Merges.boxes.is_empty g.T.Covered.object.box_of l.list.items;
  wider : l.fn.widest ≤ l.widest;
  counted : l.widest + 1 < 2 ^ 64;
  parts : IsUnderway (λ t k. g.T.Cover.Merges.boxes.axis_key (g.T.Covered.object.box_of t) k)
      (IsFreshNode g.T.Cover.Merges.boxes g.T.Covered.object g.Params.RTreeParams.MAX_SIZE l.widest g.T.InSlabs.axes l.below)
      l.clusters (l.axes - 1) (last_of l.len l.fn.list.items) (last_of l.rest l.list.items) l.fn.nodes.items l.nodes.items;
}

abbrev pub decreases-load_parts-loop-rest : goal.decreases-load_parts-loop-rest
decreases-load_parts-loop-rest g l = l.rest
