use Rattle.std.proofs.Common.{◌∙◌}
use Rattle.std.proofs.lemmas.Result.{IfOk-weaker}
use Rattle.rstar.specs.Trees.{IsWholeTree}
use Rattle.rstar.proofs.selecting.Complete.{all-root, part-root}
use Rattle.rstar.proofs.rtree.RTree.locate_with_selection_function.Goals as goal

pub returns-clause-all : goal.returns-clause-all
unfolding IsWholeTree
returns-clause-all g c =
    IfOk-weaker c.new.result _ _ (λ it gives lawful. gives
    ∙ all-root g.met.T.Envelope.Envelope.envelope_laws g.met.T.RTreeObject.object_law (g.Func.SelectionFunction.accepts c.args.func) (g.Func.SelectionFunction.selects c.args.func) lawful c.args.self.now.root c.requires.root_whole) c.new.ensures.gives

pub returns-clause-part : goal.returns-clause-part
unfolding IsWholeTree
returns-clause-part g c =
    IfOk-weaker c.new.result _ _ (λ it gives. rw gives (part-root (g.Func.SelectionFunction.accepts c.args.func) (g.Func.SelectionFunction.selects c.args.func) c.args.self.now.root)) c.new.ensures.gives
