use Rattle.std.proofs.Common.{◌≡◌, ◌+◌, map, min, length}
use Rattle.rstar_base.specs.Counts.{usize_max}
use Rattle.rstar_c.specs.Items.{corners_of, number}
use Rattle.rstar_c.specs.Put.{over}
use Rattle.rstar_c.proofs.put.put_items.Given as goal

-- the items given so far are counted, and their corners and numbers stand in the lists
abbrev pub invariant-loop-item : goal.invariant-loop-item
invariant-loop-item g l = record {
  counted : l.next ≡ min (0 + length l.yielded) usize_max;
  boxes : l.boxes ≡ over (map (λ t. corners_of t.now) l.yielded) l.initial.boxes;
  ids : l.ids ≡ over (map (λ t. number t.now) l.yielded) l.initial.ids;
}
