use Rattle.std.proofs.Common.{None, sym, ◌∙◌, ap, subst}
use Rattle.rstar.specs.Nodes.{all_given}
use Rattle.rstar.specs.Trees.{IsWholeTree}
use Rattle.rstar.specs.Visits.{IsFirst}
use Rattle.rstar.proofs.selecting.Complete.{all-root, gives_none, gives_below}
use Rattle.rstar.proofs.visiting.Visits.{one_of}
use Rattle.rstar.proofs.rtree.RTree.locate_first.Goals as goal

pub returns-then-not-enters : goal.returns-then-not-enters
unfolding IsWholeTree
returns-then-not-enters g c = λ lawful.
    let accepts = g.Func.SelectionFunction.accepts c.args.func.now in
    let selects = g.Func.SelectionFunction.selects c.args.func.now in let root = c.args.self.now.root in
    one_of _ _ None (all-root g.met.T.Envelope.Envelope.envelope_laws g.met.T.RTreeObject.object_law accepts selects lawful root c.requires.root_whole)
    (gives_none accepts selects root (c.enters.ensures.refused c.if-not-enters.true))

pub returns : goal.returns
unfolding IsWholeTree
returns g c = λ lawful.
    let accepts = g.Func.SelectionFunction.accepts c.args.func.now in
    let selects = g.Func.SelectionFunction.selects c.args.func.now in let root = c.args.self.now.root in
    let same = gives_below accepts selects root (c.enters.ensures.entered c.if-not-enters.false).1 ∙ ap (all_given accepts selects) (sym c.as_slice.ensures.value) in
    one_of _ _ _ (all-root g.met.T.Envelope.Envelope.envelope_laws g.met.T.RTreeObject.object_law accepts selects lawful root c.requires.root_whole)
    (subst (λ l. IsFirst l c.first_below.result) (sym same) c.first_below.ensures)
