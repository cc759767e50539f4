use Rattle.std.proofs.Common.{Some, ap, sym, ◌∙◌}
use Rattle.std.specs.Ordering.{is_lt}
use Rattle.rstar_base.proofs.HeapParts.{first-above, last-above}
use Rattle.rstar_base.proofs.heap.is_above_all.Goals as goal

pub returns-in-Some-Some-clause-above : goal.returns-in-Some-Some-clause-above
returns-in-Some-Some-clause-above g c = λ e. first-above g.T.Ord.cmp g.met.T.Ord.total c.args.items.now c.args.others.now c.in-Some-Some.last c.in-Some.first.now c.requires.full c.requires.rises c.requires.heap c.in-Some.ensures.value (ap Some (sym c.in-Some-Some.field-0-is) ∙ c.in-Some-Some.ensures.value) (sym (c.is_lt.ensures ∙ ap is_lt c.cmp.ensures) ∙ e)

pub returns-in-Some-Some-clause-below : goal.returns-in-Some-Some-clause-below
returns-in-Some-Some-clause-below g c = λ e. last-above g.T.Ord.cmp g.met.T.Ord.total c.args.items.now c.args.others.now c.in-Some-Some.last c.in-Some.first.now c.requires.full c.requires.rises c.requires.heap c.in-Some.ensures.value (ap Some (sym c.in-Some-Some.field-0-is) ∙ c.in-Some-Some.ensures.value) (sym (c.is_lt.ensures ∙ ap is_lt c.cmp.ensures) ∙ e)
