use Rattle.std.proofs.Common.{◌++◌, drop}
use Rattle.std.specs.Prelude.{codes}
use Rattle.std.specs.List.{flat_map}
use Rattle.rstar_run.specs.Texts.{list_text}
use Rattle.rstar_run.proofs.Prints.{PrintsBut}
use Rattle.rstar_run.proofs.answers.print_list.Given as goal

-- all is printed but the texts of the items from the index on
abbrev pub invariant-loop-item : goal.invariant-loop-item
invariant-loop-item g l =
    PrintsBut (g.W.Write.contents l.fn.output) (g.W.Write.contents l.output) l.fn.printer.held.items (list_text g.T.Listed.text_of l.fn.items ++ codes "\n")
    (flat_map (λ t. codes " " ++ g.T.Listed.text_of t) (drop l.item-index l.rest) ++ codes "\n") l.printer.held.items
