use Rattle.std.proofs.Common.{◌∙◌, ◌++◌, ap, filter, sym}
use Rattle.rstar.specs.Nodes.{all_given, elements_of}
use Rattle.rstar.specs.Trees.{IsWholeTree}
use Rattle.rstar.proofs.selecting.Complete.{all-root, gives_none, gives_below}
use Rattle.rstar.proofs.replay.answers.clones_of.Goals as goal

pub returns-then-not-enters : goal.returns-then-not-enters
unfolding IsWholeTree
returns-then-not-enters g c =
    let accepts = g.Func.SelectionFunction.accepts c.args.func in
    let selects = g.Func.SelectionFunction.selects c.args.func in
    let root = c.root-root.result.now in
    let all = all-root g.met.T.Envelope.Envelope.envelope_laws g.met.T.RTreeObject.object_law accepts selects c.requires.lawful root (c.root-root.ensures.whole c.requires.whole) in
    let none = gives_none accepts selects root (c.enters.ensures.refused c.if-not-enters.true) in
    c.new.ensures.items ∙ sym none ∙ all ∙ ap (λ r. filter selects (elements_of r)) c.root-root.ensures.shown

pub returns : goal.returns
unfolding IsWholeTree
returns g c =
    let accepts = g.Func.SelectionFunction.accepts c.args.func in
    let selects = g.Func.SelectionFunction.selects c.args.func in
    let root = c.root-root.result.now in
    let all = all-root g.met.T.Envelope.Envelope.envelope_laws g.met.T.RTreeObject.object_law accepts selects c.requires.lawful root (c.root-root.ensures.whole c.requires.whole) in
    let below = gives_below accepts selects root (c.enters.ensures.entered c.if-not-enters.false).1 in
    c.in_ok-clones_below.ensures ∙ ap (λ ts. ts ++ all_given accepts selects c.as_slice.result.now) c.in_ok-found.ensures.items ∙ ap (all_given accepts selects) c.as_slice.ensures.value ∙ sym below ∙ all ∙ ap (λ r. filter selects (elements_of r)) c.root-root.ensures.shown
