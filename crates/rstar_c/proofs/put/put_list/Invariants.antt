use Rattle.std.proofs.Common.{◌≡◌, ◌+◌, map, min, length, take}
use Rattle.rstar_base.specs.Counts.{usize_max}
use Rattle.rstar_c.specs.Put.{over}
use Rattle.rstar_c.proofs.put.put_list.Given as goal

-- the numbers read so far stand in the list
abbrev pub invariant-loop-item : goal.invariant-loop-item
invariant-loop-item g l = record {
  counted : l.next ≡ min (0 + length (take l.item-index l.items)) usize_max;
  written : l.ids ≡ over (map (λ t. t.1) (take l.item-index l.items)) l.initial.ids;
}
