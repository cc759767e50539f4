use Rattle.std.proofs.Common.{◌∙◌, ap, not, sym, inl, inr}
use Rattle.std.proofs.lemmas.Bool.{true≢false}
use Rattle.rstar.specs.Nodes.{children_of}
use Rattle.rstar.proofs.selecting.Traversals.{no-items, some-items}
use Rattle.rstar.proofs.visits.enters.Goals as goal

pub returns-then-not-is_empty : goal.returns-then-not-is_empty
returns-then-not-is_empty g c = record {
  entered = λ e. (some-items (children_of c.args.root.now) _ _ c.is_empty.ensures c.if-not-is_empty.true c.args.root.now.children.ok.0, sym c.should_unpack_parent.ensures ∙ e);
  refused = λ e. inr (sym c.should_unpack_parent.ensures ∙ e);
}

pub returns-else-not-is_empty : goal.returns-else-not-is_empty
returns-else-not-is_empty g c = record {
  entered = λ e. absurd (true≢false (sym e ∙ ap not c.if-not-is_empty.false));
  refused = λ _. inl (no-items (children_of c.args.root.now) _ _ c.is_empty.ensures c.if-not-is_empty.false c.args.root.now.children.ok.0);
}
