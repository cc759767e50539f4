use Rattle.std.proofs.Common.{◌∙◌, sym}
use Rattle.std.proofs.lemmas.Bool.{cond-true, cond-false}
use Rattle.std.proofs.lemmas.List.Sorted.{IsPermutation-refl}
use Rattle.rstar.proofs.removing.Gathered.{moved_none, none_ended, fewer_gone, whole_left}
use Rattle.rstar.proofs.removing.Removed.{root_refused}
use Rattle.rstar.proofs.rtree.RTree.gather.Goals as goal

pub returns-then-not-enters-clause-moved : goal.returns-then-not-enters-clause-moved
returns-then-not-enters-clause-moved g c = moved_none (g.R.SelectionFunction.selects c.args.func.now) c.args.most _ _ _ (IsPermutation-refl _)

pub returns-then-not-enters-clause-ended : goal.returns-then-not-enters-clause-ended
returns-then-not-enters-clause-ended g c lawful room =
    root_refused g.met.T.Envelope.Envelope.envelope_laws g.met.T.RTreeObject.object_law g.Params.RTreeParams.MAX_SIZE (g.R.SelectionFunction.accepts c.args.func.now) (g.R.SelectionFunction.selects c.args.func.now) c.args.self.now c.requires.whole
    (c.enters.ensures.refused c.if-not-enters.true) lawful

pub overflow_sub-self-2 : goal.overflow_sub-self-2
overflow_sub-self-2 g c = fewer_gone g.met.T.Envelope.Envelope.envelope_laws g.met.T.RTreeObject.object_law g.Params.RTreeParams.MAX_SIZE (g.R.SelectionFunction.accepts c.args.func.now) (g.R.SelectionFunction.selects c.args.func.now) c.args.most c.args.self.now c.gather_below.new.node c.args.taken.now.items c.gather_below.new.taken.items c.requires.whole ((c.enters.ensures.entered c.if-not-enters.false).0) c.gather_below.ensures.gathers c.len.result c.len-before.result (c.len.ensures ∙ c.gather_below.new.taken.ok.0) (c.len-before.ensures ∙ c.args.taken.now.ok.0)

pub returns-then-is_empty-clause-ended : goal.returns-then-is_empty-clause-ended
returns-then-is_empty-clause-ended g c = none_ended g.met.T.Envelope.Envelope.envelope_laws g.met.T.RTreeObject.object_law g.Params.RTreeParams.MAX_SIZE (g.R.SelectionFunction.accepts c.args.func.now) (g.R.SelectionFunction.selects c.args.func.now) c.args.most c.args.self.now c.gather_below.new.node c.args.taken.now.items c.gather_below.new.taken.items c.requires.whole ((c.enters.ensures.entered c.if-not-enters.false).0) c.gather_below.ensures.gathers

pub returns-else-is_empty-clause-ended : goal.returns-else-is_empty-clause-ended
returns-else-is_empty-clause-ended g c = none_ended g.met.T.Envelope.Envelope.envelope_laws g.met.T.RTreeObject.object_law g.Params.RTreeParams.MAX_SIZE (g.R.SelectionFunction.accepts c.args.func.now) (g.R.SelectionFunction.selects c.args.func.now) c.args.most c.args.self.now c.gather_below.new.node c.args.taken.now.items c.gather_below.new.taken.items c.requires.whole ((c.enters.ensures.entered c.if-not-enters.false).0) c.gather_below.ensures.gathers

pub returns-then-is_empty-clause-whole : goal.returns-then-is_empty-clause-whole
returns-then-is_empty-clause-whole g c =
    whole_left g.met.T.Envelope.Envelope.envelope_laws g.met.T.RTreeObject.object_law g.Params.RTreeParams.MAX_SIZE (g.R.SelectionFunction.accepts c.args.func.now) (g.R.SelectionFunction.selects c.args.func.now) c.args.most c.args.self.now c.gather_below.new.node c.args.taken.now.items c.gather_below.new.taken.items c.requires.whole ((c.enters.ensures.entered c.if-not-enters.false).0) c.gather_below.ensures.gathers c.len.result c.len-before.result (c.len.ensures ∙ c.gather_below.new.taken.ok.0) (c.len-before.ensures ∙ c.args.taken.now.ok.0)
    0 c.gather_below.ensures.kept (sym (cond-true _ _ _ (sym c.is_empty.ensures ∙ c.if-is_empty.true)))

pub returns-else-is_empty-clause-whole : goal.returns-else-is_empty-clause-whole
returns-else-is_empty-clause-whole g c =
    whole_left g.met.T.Envelope.Envelope.envelope_laws g.met.T.RTreeObject.object_law g.Params.RTreeParams.MAX_SIZE (g.R.SelectionFunction.accepts c.args.func.now) (g.R.SelectionFunction.selects c.args.func.now) c.args.most c.args.self.now c.gather_below.new.node c.args.taken.now.items c.gather_below.new.taken.items c.requires.whole ((c.enters.ensures.entered c.if-not-enters.false).0) c.gather_below.ensures.gathers c.len.result c.len-before.result (c.len.ensures ∙ c.gather_below.new.taken.ok.0) (c.len-before.ensures ∙ c.args.taken.now.ok.0)
    c.args.self.now.levels c.gather_below.ensures.kept (sym (cond-false _ _ _ (sym c.is_empty.ensures ∙ c.if-is_empty.false)))
