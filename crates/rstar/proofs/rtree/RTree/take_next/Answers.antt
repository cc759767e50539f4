use Rattle.std.proofs.Common.{◌∙◌, sym}
use Rattle.std.proofs.lemmas.Bool.{cond-true, cond-false}
use Rattle.rstar.proofs.removing.Removed.{removes_one, removes_none, leaves}
use Rattle.rstar.proofs.rtree.RTree.take_next.Goals as goal

pub returns-then-not-enters : goal.returns-then-not-enters
returns-then-not-enters g c =
    leaves g.met.T.Envelope.Envelope.envelope_laws g.met.T.RTreeObject.object_law g.Params.RTreeParams.MAX_SIZE (g.R.SelectionFunction.accepts c.args.func.now) (g.R.SelectionFunction.selects c.args.func.now)
    c.args.self.now c.args.path.now c.args.rest.now c.requires (c.enters.ensures.refused c.if-not-enters.true)

pub returns-then-is_empty : goal.returns-then-is_empty
returns-then-is_empty g c =
    removes_one g.met.T.Envelope.Envelope.envelope_laws g.met.T.RTreeObject.object_law g.Params.RTreeParams.MAX_SIZE (g.R.SelectionFunction.accepts c.args.func.now) (g.R.SelectionFunction.selects c.args.func.now)
    c.args.self.now c.take_below-taken.new.node _ _ _ _ _ c.requires (c.enters.ensures.entered c.if-not-enters.false).0 c.take_below-taken.ensures.takes c.take_below-taken.ensures.kept
    0 (sym c.is_some.ensures ∙ c.if-is_some.true) (sym (cond-true _ _ _ (sym c.is_empty.ensures ∙ c.if-is_empty.true)))

pub returns-else-is_empty : goal.returns-else-is_empty
returns-else-is_empty g c =
    removes_one g.met.T.Envelope.Envelope.envelope_laws g.met.T.RTreeObject.object_law g.Params.RTreeParams.MAX_SIZE (g.R.SelectionFunction.accepts c.args.func.now) (g.R.SelectionFunction.selects c.args.func.now)
    c.args.self.now c.take_below-taken.new.node _ _ _ _ _ c.requires (c.enters.ensures.entered c.if-not-enters.false).0 c.take_below-taken.ensures.takes c.take_below-taken.ensures.kept
    c.args.self.now.levels (sym c.is_some.ensures ∙ c.if-is_some.true) (sym (cond-false _ _ _ (sym c.is_empty.ensures ∙ c.if-is_empty.false)))

pub returns-else-is_some : goal.returns-else-is_some
returns-else-is_some g c =
    removes_none g.met.T.Envelope.Envelope.envelope_laws g.met.T.RTreeObject.object_law g.Params.RTreeParams.MAX_SIZE (g.R.SelectionFunction.accepts c.args.func.now) (g.R.SelectionFunction.selects c.args.func.now)
    c.args.self.now c.take_below-taken.new.node _ _ _ _ _ c.requires (c.enters.ensures.entered c.if-not-enters.false).0 c.take_below-taken.ensures.takes c.take_below-taken.ensures.kept
    (sym c.is_some.ensures ∙ c.if-is_some.false) c.take_below-taken.ensures.same
