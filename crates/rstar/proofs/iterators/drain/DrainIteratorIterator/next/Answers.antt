use Rattle.std.proofs.Common.{◌∙◌, ap, sym, refl, length, subst}
use Rattle.std.proofs.lemmas.List.{with_items_is}
use Rattle.rstar.specs.inside.Taking.{Removes}
use Rattle.rstar.proofs.removing.Removed.{takes_next, goes_on}
use Rattle.rstar.proofs.iterators.drain.DrainIteratorIterator.next.Goals as goal

pub returns-clause-steps : goal.returns-clause-steps
returns-clause-steps g c =
    let v = g.T.Envelope.Envelope.boxes in let o = g.T.RTreeObject.object in let max = g.Params.RTreeParams.MAX_SIZE in
    let it = c.args.self.now in let taken = c.take_next in
    let path = with_items_is it.path taken.new.path (taken.auto.path ∙ ap length c.deref_mut.ensures.value ∙ sym it.path.ok.0) in
    let removes = subst (λ l. Removes v o max (g.R.SelectionFunction.accepts it.func) (g.R.SelectionFunction.selects it.func) it.tree.now it.path.items it.rest taken.result taken.new.self l taken.new.rest)
    (sym path) (rw c.deref_mut.ensures.value at taken.ensures) in
    (takes_next v o max g.R.SelectionFunction.accepts g.R.SelectionFunction.selects it _ taken.result c.requires refl removes, refl)

pub returns-clause-goes : goal.returns-clause-goes
returns-clause-goes g c =
    goes_on g.T.Envelope.Envelope.boxes g.T.RTreeObject.object g.Params.RTreeParams.MAX_SIZE g.R.SelectionFunction.accepts g.R.SelectionFunction.selects c.args.self.now _ c.take_next.result (returns-clause-steps g c).0
