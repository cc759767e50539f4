use Rattle.std.proofs.Common.{◌∙◌, ap, filter, inr, map, subst, sym}
use Rattle.rstar.specs.Nodes.{all_given, elements_of, given}
use Rattle.rstar.proofs.selecting.Complete.{all-root, gives_none, gives_below}
use Rattle.rstar_c.specs.Put.{ArePut}
use Rattle.rstar_c.proofs.Puts.{put-nothing}
use Rattle.rstar_c.proofs.Walks.{told-below}
use Rattle.rstar_c.proofs.walk.put_lawful.Goals as goal

pub returns-then-not-should_unpack_parent : goal.returns-then-not-should_unpack_parent
returns-then-not-should_unpack_parent g c =
    let accepts = g.F.SelectionFunction.accepts c.args.question.now in
    let selects = g.F.SelectionFunction.selects c.args.question.now in
    let root = c.root-root.result.now in
    let all = all-root g.met.R.Envelope.Envelope.envelope_laws (λ t h. g.met.R.RTreeObject.object_law t.0 h) accepts selects c.requires.lawful root (c.root-root.ensures.whole c.requires.whole) in
    let none = gives_none accepts selects root (inr (ap accepts (sym c.envelope.ensures) ∙ sym c.should_unpack_parent.ensures ∙ c.if-not-should_unpack_parent.true)) in
    subst (λ items. ArePut (map (λ t. t.1) items) c.args.from c.args.out.now c.args.out.now c.args.from)
    (sym none ∙ all ∙ ap (λ r. filter selects (elements_of r)) c.root-root.ensures.shown)
    (put-nothing c.args.from c.args.out.now c.ranges.from.fits)

pub returns : goal.returns
returns g c =
    let accepts = g.F.SelectionFunction.accepts c.args.question.now in
    let selects = g.F.SelectionFunction.selects c.args.question.now in
    let root = c.root-root.result.now in
    let all = all-root g.met.R.Envelope.Envelope.envelope_laws (λ t h. g.met.R.RTreeObject.object_law t.0 h) accepts selects c.requires.lawful root (c.root-root.ensures.whole c.requires.whole) in
    let below = gives_below accepts selects root (ap accepts (sym c.envelope.ensures) ∙ sym c.should_unpack_parent.ensures ∙ c.if-not-should_unpack_parent.false) in
    subst (λ numbers. ArePut numbers c.args.from c.args.out.now c.put_below.new.out c.put_below.result)
    (told-below (λ t. t.1) (given accepts selects) c.children.result.now
    ∙ ap (map (λ t. t.1)) (ap (all_given accepts selects) c.children.ensures ∙ sym below ∙ all ∙ ap (λ r. filter selects (elements_of r)) c.root-root.ensures.shown))
    c.put_below.ensures
