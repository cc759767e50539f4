use Rattle.std.proofs.Common.{◌≡◌, filter, take, map, min, length}
use Rattle.std.specs.List.{flat_map}
use Rattle.rstar_base.specs.Counts.{usize_max}
use Rattle.rstar_c.specs.Items.{number}
use Rattle.rstar_c.specs.Put.{over, offsets_of}
use Rattle.rstar_c.proofs.questions.put_each.Given as goal

-- the questions asked so far are answered
abbrev pub invariant-loop-i : goal.invariant-loop-i
invariant-loop-i g l = record {
  counted : l.next ≡ min (length (flat_map (λ a. map number (filter (g.Q.Question.chosen l.question a) l.store)) (take l.i l.shapes))) usize_max;
  begun : l.offsets ≡ over (take l.i (offsets_of (λ a. length (filter (g.Q.Question.chosen l.question a) l.store)) 0 l.shapes)) l.initial.offsets;
  written : l.ids ≡ over (flat_map (λ a. map number (filter (g.Q.Question.chosen l.question a) l.store)) (take l.i l.shapes)) l.initial.ids;
}
