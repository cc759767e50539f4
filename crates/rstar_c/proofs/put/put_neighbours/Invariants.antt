use Rattle.std.proofs.Common.{◌≡◌, ◌+◌, map, min, length, take}
use Rattle.rstar_base.specs.Counts.{usize_max}
use Rattle.rstar_c.specs.Put.{put_from}
use Rattle.rstar_c.proofs.put.put_neighbours.Given as goal

-- the neighbours read so far are counted, and stand in the lists
abbrev pub invariant-loop-item : goal.invariant-loop-item
invariant-loop-item g l = record {
  counted : l.next ≡ min (l.initial.next + length (take l.item-index l.near)) usize_max;
  ids : l.ids ≡ put_from l.initial.next (map (λ n. n.0.now.1) (take l.item-index l.near)) l.initial.ids;
  distances : l.distances ≡ put_from l.initial.next (map (λ n. n.1) (take l.item-index l.near)) l.initial.distances;
}
