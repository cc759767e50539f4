use Rattle.std.proofs.Common.{◌∙◌, ap, sym}
use Rattle.std.proofs.lemmas.Bool.{cond-true, cond-false}
use Rattle.rstar.specs.inside.Earliest.{earliest}
use Rattle.rstar.proofs.selecting.Complete.{gives_none}
use Rattle.rstar.proofs.removing.Removed.{removes_one, removes_none, leaves}
use Rattle.rstar.proofs.rtree.RTree.take_earliest.Goals as goal

pub returns-then-not-enters-clause-removes : goal.returns-then-not-enters-clause-removes
returns-then-not-enters-clause-removes g c =
    leaves g.met.T.Envelope.Envelope.envelope_laws g.met.T.RTreeObject.object_law g.Params.RTreeParams.MAX_SIZE (g.R.SelectionFunction.accepts c.args.func.now) (g.R.SelectionFunction.selects c.args.func.now)
    c.args.self.now _ _ c.requires (c.enters.ensures.refused c.if-not-enters.true)

pub returns-then-not-enters-clause-first : goal.returns-then-not-enters-clause-first
returns-then-not-enters-clause-first g c =
    sym (ap (earliest g.T.Ord.cmp) (gives_none (g.R.SelectionFunction.accepts c.args.func.now) (g.R.SelectionFunction.selects c.args.func.now) c.args.self.now.root (c.enters.ensures.refused c.if-not-enters.true)))

pub returns-then-is_empty-clause-removes : goal.returns-then-is_empty-clause-removes
returns-then-is_empty-clause-removes g c =
    removes_one g.met.T.Envelope.Envelope.envelope_laws g.met.T.RTreeObject.object_law g.Params.RTreeParams.MAX_SIZE (g.R.SelectionFunction.accepts c.args.func.now) (g.R.SelectionFunction.selects c.args.func.now)
    c.args.self.now c.take_earliest-taken.new.node _ _ _ _ _ c.requires (c.enters.ensures.entered c.if-not-enters.false).0 c.take_earliest-taken.ensures.below.takes c.take_earliest-taken.ensures.below.kept
    0 (sym c.is_some.ensures ∙ c.if-is_some.true) (sym (cond-true _ _ _ (sym c.is_empty.ensures ∙ c.if-is_empty.true)))

pub returns-else-is_empty-clause-removes : goal.returns-else-is_empty-clause-removes
returns-else-is_empty-clause-removes g c =
    removes_one g.met.T.Envelope.Envelope.envelope_laws g.met.T.RTreeObject.object_law g.Params.RTreeParams.MAX_SIZE (g.R.SelectionFunction.accepts c.args.func.now) (g.R.SelectionFunction.selects c.args.func.now)
    c.args.self.now c.take_earliest-taken.new.node _ _ _ _ _ c.requires (c.enters.ensures.entered c.if-not-enters.false).0 c.take_earliest-taken.ensures.below.takes c.take_earliest-taken.ensures.below.kept
    c.args.self.now.levels (sym c.is_some.ensures ∙ c.if-is_some.true) (sym (cond-false _ _ _ (sym c.is_empty.ensures ∙ c.if-is_empty.false)))

pub returns-else-is_some-clause-removes : goal.returns-else-is_some-clause-removes
returns-else-is_some-clause-removes g c =
    removes_none g.met.T.Envelope.Envelope.envelope_laws g.met.T.RTreeObject.object_law g.Params.RTreeParams.MAX_SIZE (g.R.SelectionFunction.accepts c.args.func.now) (g.R.SelectionFunction.selects c.args.func.now)
    c.args.self.now c.take_earliest-taken.new.node _ _ _ _ _ c.requires (c.enters.ensures.entered c.if-not-enters.false).0 c.take_earliest-taken.ensures.below.takes c.take_earliest-taken.ensures.below.kept
    (sym c.is_some.ensures ∙ c.if-is_some.false) c.take_earliest-taken.ensures.below.same
