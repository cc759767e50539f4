use Rattle.std.proofs.Common.{◌≡◌, take, false}
use Rattle.std.specs.List.{All}
use Rattle.rstar_base.specs.Boxes.{is_empty_box}
use Rattle.rstar_c.specs.Items.{items_of, box_of}
use Rattle.rstar_c.proofs.store.listed.Given as goal

abbrev pub invariant-loop-i : goal.invariant-loop-i
invariant-loop-i l = record {
  made : l.items.items ≡ take l.i (items_of l.boxes l.ids);
  filled : All (λ item. is_empty_box (box_of item) ≡ false) l.items.items;
}
