use Rattle.std.proofs.Common.{◌≡◌, ◌≤◌, ◌<◌, ◌+◌, ◌-◌, ◌*◌, ◌^◌, length, map, vec_len}
use Rattle.std.specs.Prelude.{vec_capacity}
use Rattle.rstar.specs.inside.ParentBounds.{AreKept}
use Rattle.rstar.specs.Nodes.{all_elements}
use Rattle.rstar.specs.Shown.{shown}
use Rattle.rstar.specs.Stored.{boxes, places}
use Rattle.rstar.specs.StoredReading.{each_at, node_at}
use Rattle.rstar.proofs.storing.Laws.{with_front}
use Rattle.rstar.proofs.stored.+read.Given as goal

abbrev pub decreases-children_at : goal.decreases-children_at
decreases-children_at l = 3 * l.below + 1

abbrev pub decreases-node_at : goal.decreases-node_at
decreases-node_at l = 3 * l.height

abbrev pub decreases-parent_at : goal.decreases-parent_at
decreases-parent_at l = 3 * l.below + 2

abbrev pub invariant-children_at-loop : goal.invariant-children_at-loop
invariant-children_at-loop l = record {
  read : with_front (map shown l.children.items) (each_at (node_at l.below) (l.count - l.counter) l.rest) ≡ each_at (node_at l.below) l.count l.bytes;
  kept : AreKept boxes places l.widest l.below l.children.items;
  len : vec_len l.children ≡ l.counter;
  room : l.count ≤ vec_capacity l.children;
  wider : l.fn.widest ≤ l.widest;
  counted : l.widest + 1 < 2 ^ 64;
  points : l.points ≡ l.fn.points + length (all_elements l.children.items);
  left : l.points + length l.rest ≤ l.fn.points + length l.bytes;
}
