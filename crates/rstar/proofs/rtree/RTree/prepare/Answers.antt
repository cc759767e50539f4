use Rattle.std.proofs.Common.{◌≡◌, ◌∙◌, ℕ, [], Vec, refl}
use Rattle.std.proofs.lemmas.Result.{IfOk-from_err}
use Rattle.std.specs.List.{AllByRecursion}
use Rattle.std.specs.declared.alloc.Global.{Global}
use Rattle.rstar_base.specs.Envelopes.{Boxes}
use Rattle.rstar_base.specs.Elements.{Objects}
use Rattle.rstar.specs.declared.node.RTreeNode.{RTreeNode}
use Rattle.rstar.specs.declared.rtree.RTree.{RTree}
use Rattle.rstar.specs.inside.ParentBounds.{IsSpare}
use Rattle.rstar.specs.Trees.{WholeTree, IsWholeTree}
use Rattle.rstar.proofs.rtree.RTree.prepare.Goals as goal

-- a whole tree with other spare lists
whole_again : {T D E P S X : Type 0} (v : Boxes E) (o : Objects T E) (max : ℕ) (tree : RTree T D E P S X) (spares : Vec (Vec (RTreeNode T E) Global) Global) (overfull : Vec (RTreeNode T E) Global)
    → AllByRecursion (IsSpare tree.reserve.widest) spares.items → overfull.items ≡ [] → WholeTree v o max tree → WholeTree v o max (record tree { reserve = record tree.reserve { spares = spares; overfull = overfull } })
whole_again v o max tree spares overfull spare over whole = search

pub returns-in_err-top_up : goal.returns-in_err-top_up
unfolding IsWholeTree
returns-in_err-top_up g c = record {
  unchanged = record { shown = refl; size = refl; elements = refl; envelopes = refl };
  same = refl;
  whole = whole_again g.T.Envelope.Envelope.boxes g.T.RTreeObject.object g.Params.RTreeParams.MAX_SIZE c.args.self.now c.top_up.new.spares c.args.self.now.reserve.overfull c.top_up.ensures.spares c.requires.whole.none_over c.requires.whole;
  ready = IfOk-from_err c.from_residual.result _ c.from_residual.ensures.0;
}

pub returns-clause-whole : goal.returns-clause-whole
unfolding IsWholeTree
returns-clause-whole g c =
    whole_again g.T.Envelope.Envelope.boxes g.T.RTreeObject.object g.Params.RTreeParams.MAX_SIZE c.args.self.now c.top_up.new.spares c.reserve.new.self c.top_up.ensures.spares (c.reserve.ensures.items ∙ c.requires.whole.none_over) c.requires.whole
